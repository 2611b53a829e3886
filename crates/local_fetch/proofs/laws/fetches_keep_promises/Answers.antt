use Rattle.std.proofs.Common.{refl}
use Rattle.local_fetch.proofs.FetchLemmas.{fetches_keep}
use Rattle.local_fetch.proofs.laws.fetches_keep_promises.Goals as goal

pub returns : goal.returns
returns g c = fetches_keep _ g.D.MaildirDisk g.F.FlatFile g.M.Maildrop (λ w. refl) c.calls_keep_order.ensures
    c.calls_keep_promises.ensures
