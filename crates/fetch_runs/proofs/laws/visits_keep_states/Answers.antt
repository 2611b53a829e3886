use Rattle.fetch_runs.proofs.Visits as lemmas
use Rattle.fetch_runs.proofs.laws.visits_keep_states.Goals as goal

pub returns : goal.returns
returns g c =
    lemmas.visits_keep_states g.W.Wire g.D.MaildirDisk g.F.FlatFile c.calls_keep_promises.ensures c.mbox_calls_keep_promises.ensures
