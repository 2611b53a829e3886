use Rattle.fetch_runs.proofs.Calls as lemmas
use Rattle.fetch_runs.proofs.laws.calls_keep_promises.Goals as goal

pub returns : goal.returns
returns g c = lemmas.calls_keep_promises c.laws_below.ensures g.W.Wire g.D.MaildirDisk g.F.FlatFile c.calls_keep_order.ensures
