use Rattle.std.proofs.Common.{◌≡◌, length}
use Rattle.mail_store.specs.Mboxrd.{is_marked}
use Rattle.mail_store.proofs.mboxrd.quoting.is_marked.Given as goal

abbrev pub invariant-loop-rest : goal.invariant-loop-rest
invariant-loop-rest l = is_marked l.line ≡ is_marked l.rest

abbrev pub decreases-loop-rest : goal.decreases-loop-rest
decreases-loop-rest l = length l.rest
