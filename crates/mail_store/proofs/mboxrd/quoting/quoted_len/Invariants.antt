use Rattle.std.proofs.Common.{length}
use Rattle.mail_store.proofs.MboxLemmas.{Counts}
use Rattle.mail_store.proofs.mboxrd.quoting.quoted_len.Given as goal

abbrev pub invariant-loop-rest : goal.invariant-loop-rest
invariant-loop-rest l = Counts l.text l.rest l.marked

abbrev pub decreases-loop-rest : goal.decreases-loop-rest
decreases-loop-rest l = length l.rest
