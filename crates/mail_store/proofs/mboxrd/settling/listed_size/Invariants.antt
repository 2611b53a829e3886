use Rattle.std.proofs.Common.{◌≡◌, drop}
use Rattle.mail_store.specs.Settling.{listed_size}
use Rattle.mail_store.proofs.mboxrd.settling.listed_size.Given as goal

-- no message so far has the id
abbrev pub invariant-loop-i : goal.invariant-loop-i
invariant-loop-i l = listed_size (drop l.i l.listing) l.uid ≡ listed_size l.listing l.uid
