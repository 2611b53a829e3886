use Rattle.pop3_wire.proofs.BodyLemmas.{reached_begins}
use Rattle.pop3_wire.proofs.unstuffer.shows_a_beginning.Goals as goal

pub returns : goal.returns
returns c spot bytes text rest whole reached is = reached_begins spot bytes text rest whole reached is
