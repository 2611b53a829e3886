use Rattle.std.proofs.Common.{◌≡◌, ◌+◌, drop}
use Rattle.mail_store.specs.Settling.{is_torn}
use Rattle.mail_store.proofs.mboxrd.settling.is_torn.Given as goal

abbrev pub invariant-loop-byte : goal.invariant-loop-byte
invariant-loop-byte l = (l.at ≡ l.place + l.byte-index) × (is_torn l.place l.bytes ≡ is_torn l.at (drop l.byte-index l.bytes))
