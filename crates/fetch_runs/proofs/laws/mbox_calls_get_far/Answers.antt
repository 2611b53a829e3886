use Rattle.fetch_runs.proofs.Progress as lemmas
use Rattle.fetch_runs.proofs.laws.mbox_calls_get_far.Goals as goal

pub returns : goal.returns
returns g c = lemmas.get_mbox_far c.laws_below.ensures g.W.Wire g.D.MaildirDisk g.F.FlatFile c.mbox_calls_keep_order.ensures
