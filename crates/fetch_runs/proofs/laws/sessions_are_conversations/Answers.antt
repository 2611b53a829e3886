use Rattle.fetch_runs.proofs.Talk as lemmas
use Rattle.fetch_runs.proofs.laws.sessions_are_conversations.Goals as goal

pub returns : goal.returns
returns c = lemmas.sessions_are_conversations c.laws_below.ensures
