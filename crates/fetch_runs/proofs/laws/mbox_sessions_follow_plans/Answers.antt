use Rattle.fetch_runs.proofs.Talk as lemmas
use Rattle.fetch_runs.proofs.laws.mbox_sessions_follow_plans.Goals as goal

pub returns : goal.returns
returns c = lemmas.mbox_sessions_follow_plans c.laws_below.ensures
