use Rattle.pop3_wire.proofs.BodyLemmas.{reached_body}
use Rattle.pop3_wire.proofs.unstuffer.ends_with_body.Goals as goal

pub returns : goal.returns
returns c spot bytes text reached = (λ done. rw done at reached, λ whole is. reached_body spot bytes text whole reached is)
