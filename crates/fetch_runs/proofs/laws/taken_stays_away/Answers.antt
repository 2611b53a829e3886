use Rattle.fetch_runs.proofs.Calls as lemmas
use Rattle.fetch_runs.proofs.laws.taken_stays_away.Goals as goal

pub returns : goal.returns
returns g c = lemmas.taken_stays_away c.laws_below.ensures g.W.Wire g.D.MaildirDisk g.F.FlatFile
