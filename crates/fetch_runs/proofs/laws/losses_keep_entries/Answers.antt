use Rattle.fetch_runs.proofs.Outcomes as lemmas
use Rattle.fetch_runs.proofs.laws.losses_keep_entries.Goals as goal

pub returns : goal.returns
returns g c = lemmas.losses_keep_entries g.W.Wire g.D.MaildirDisk g.F.FlatFile c.mbox_calls_keep_promises.ensures
