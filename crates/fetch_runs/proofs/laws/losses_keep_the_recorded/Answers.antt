use Rattle.fetch_runs.proofs.Outcomes as lemmas
use Rattle.fetch_runs.proofs.laws.losses_keep_the_recorded.Goals as goal

pub returns : goal.returns
returns g c = lemmas.losses_keep_the_recorded g.W.Wire g.D.MaildirDisk g.F.FlatFile c.calls_keep_promises.ensures
