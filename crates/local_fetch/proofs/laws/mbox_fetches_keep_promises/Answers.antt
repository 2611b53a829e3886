use Rattle.std.proofs.Common.{refl}
use Rattle.local_fetch.proofs.FetchLemmas.{mbox_fetches_keep}
use Rattle.local_fetch.proofs.laws.mbox_fetches_keep_promises.Goals as goal

pub returns : goal.returns
returns g c = mbox_fetches_keep _ g.D.MaildirDisk g.F.FlatFile g.M.Maildrop (λ w. refl) c.mbox_calls_keep_order.ensures
    c.mbox_calls_keep_promises.ensures
