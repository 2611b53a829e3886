use Rattle.fetch_runs.proofs.Visits as lemmas
use Rattle.fetch_runs.proofs.laws.visits_are_calls.Goals as goal

pub returns : goal.returns
returns g c = lemmas.visits_are_calls g.W.Wire g.D.MaildirDisk g.F.FlatFile
