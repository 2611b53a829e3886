use Rattle.session_parts.proofs.CutLemmas.{cuts_have_causes}
use Rattle.session_parts.proofs.laws.cuts_have_causes.Goals as goal

pub returns : goal.returns
returns c = cuts_have_causes c.turns_join.ensures
