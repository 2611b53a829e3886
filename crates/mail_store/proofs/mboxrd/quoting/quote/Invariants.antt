use Rattle.std.proofs.Common.{length}
use Rattle.mail_store.{specs.Mboxrd.quoted, proofs.MboxLemmas.Copies}
use Rattle.mail_store.proofs.mboxrd.quoting.quote.Given as goal

abbrev pub invariant-loop-rest : goal.invariant-loop-rest
invariant-loop-rest l = Copies quoted l.quoted.items l.run l.rest l.text

abbrev pub decreases-loop-rest : goal.decreases-loop-rest
decreases-loop-rest l = length l.rest
