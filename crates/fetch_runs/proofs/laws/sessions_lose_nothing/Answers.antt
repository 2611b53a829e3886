use Rattle.fetch_runs.proofs.Steps as lemmas
use Rattle.fetch_runs.proofs.laws.sessions_lose_nothing.Goals as goal

pub returns : goal.returns
returns c = lemmas.sessions_lose_nothing c.laws_below.ensures
