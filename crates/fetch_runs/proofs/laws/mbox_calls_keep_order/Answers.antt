use Rattle.fetch_runs.proofs.Calls as lemmas
use Rattle.fetch_runs.proofs.laws.mbox_calls_keep_order.Goals as goal

pub returns : goal.returns
returns g c = lemmas.mbox_keep_order c.laws_below.ensures g.W.Wire g.D.MaildirDisk g.F.FlatFile c.sessions_by_store.ensures.mbox
