use Rattle.fetch_runs.proofs.Steps as lemmas
use Rattle.fetch_runs.proofs.laws.mbox_sessions_lose_nothing.Goals as goal

pub returns : goal.returns
returns c = lemmas.mbox_sessions_lose_nothing c.laws_below.ensures
