use Rattle.pop3_wire.proofs.BodyLemmas as lemma
use Rattle.pop3_wire.proofs.stuffing.stuffed_is_read.Goals as goal

pub returns : goal.returns
returns c = lemma.stuffed_is_read
