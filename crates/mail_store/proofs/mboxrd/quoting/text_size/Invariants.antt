use Rattle.std.proofs.Common.{length}
use Rattle.mail_store.proofs.MboxLemmas.{Sizes}
use Rattle.mail_store.proofs.mboxrd.quoting.text_size.Given as goal

abbrev pub invariant-loop-rest : goal.invariant-loop-rest
invariant-loop-rest l = Sizes l.quoted l.rest l.size

abbrev pub decreases-loop-rest : goal.decreases-loop-rest
decreases-loop-rest l = length l.rest
