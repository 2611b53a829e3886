use Rattle.fetch_runs.proofs.Sharing as lemmas
use Rattle.fetch_runs.proofs.laws.turns_keep_promises.Goals as goal

pub returns : goal.returns
returns g c = lemmas.turns_keep_promises g.W.Wire g.D.MaildirDisk g.F.FlatFile c.calls_keep_promises.ensures
