use Rattle.fetch_runs.proofs.Outcomes as lemmas
use Rattle.fetch_runs.proofs.laws.losses_take_one.Goals as goal

pub returns : goal.returns
returns g c = lemmas.losses_take_one c.laws_below.ensures g.W.Wire g.D.MaildirDisk g.F.FlatFile c.headline.ensures
