use Rattle.std.proofs.Common.{length}
use Rattle.mail_store.{specs.MboxCalls.text_bytes, proofs.MboxLemmas.ReadsOn}
use Rattle.mail_store.proofs.mboxrd.reading.read_mbox.Given as goal

abbrev pub invariant-loop-rest : goal.invariant-loop-rest
invariant-loop-rest l = ReadsOn l.bytes l.rest (text_bytes l.texts)

abbrev pub decreases-loop-rest : goal.decreases-loop-rest
decreases-loop-rest l = length l.rest
