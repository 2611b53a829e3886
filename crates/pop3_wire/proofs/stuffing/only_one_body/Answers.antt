use Rattle.pop3_wire.proofs.BodyLemmas.{one_body}
use Rattle.pop3_wire.proofs.stuffing.only_one_body.Goals as goal

pub returns : goal.returns
returns c = one_body
