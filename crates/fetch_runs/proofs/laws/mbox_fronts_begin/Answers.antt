use Rattle.fetch_runs.proofs.Calls as lemmas
use Rattle.fetch_runs.proofs.laws.mbox_fronts_begin.Goals as goal

pub returns : goal.returns
returns c = lemmas.mbox_fronts_begin
