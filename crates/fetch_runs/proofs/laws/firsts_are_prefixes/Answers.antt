use Rattle.fetch_runs.proofs.Outcomes as lemmas
use Rattle.fetch_runs.proofs.laws.firsts_are_prefixes.Goals as goal

pub returns : goal.returns
returns g c = lemmas.firsts_are_prefixes c.laws_below.ensures g.W.Wire g.D.MaildirDisk g.F.FlatFile c.headline.ensures
