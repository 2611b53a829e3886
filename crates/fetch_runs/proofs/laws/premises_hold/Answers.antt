use Rattle.fetch_runs.proofs.Witnesses as lemmas
use Rattle.fetch_runs.proofs.laws.premises_hold.Goals as goal

pub returns : goal.returns
returns g c = lemmas.premises_hold c.laws_below.ensures g.W.Wire g.D.MaildirDisk g.F.FlatFile
