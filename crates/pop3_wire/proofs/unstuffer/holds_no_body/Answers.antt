use Rattle.pop3_wire.proofs.BodyLemmas.{reached_no_body}
use Rattle.pop3_wire.proofs.unstuffer.holds_no_body.Goals as goal

pub returns : goal.returns
returns c = reached_no_body
