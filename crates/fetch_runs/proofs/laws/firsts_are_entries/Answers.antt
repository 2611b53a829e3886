use Rattle.fetch_runs.proofs.Outcomes as lemmas
use Rattle.fetch_runs.proofs.laws.firsts_are_entries.Goals as goal

pub returns : goal.returns
returns g c = lemmas.firsts_are_entries c.laws_below.ensures g.W.Wire g.D.MaildirDisk g.F.FlatFile c.mbox_headline.ensures
