use Rattle.std.proofs.Common.{refl}
use Rattle.local_fetch.proofs.GoodLemmas.{good_fetches}
use Rattle.local_fetch.proofs.laws.good_fetches_store_all.Goals as goal

pub returns : goal.returns
returns g c = good_fetches _ g.D.MaildirDisk g.F.FlatFile g.M.Maildrop (λ w. refl) (λ u v serves. serves) c.good_sessions_store_all.ensures
