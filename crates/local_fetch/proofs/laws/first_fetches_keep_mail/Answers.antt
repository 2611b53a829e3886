use Rattle.local_fetch.proofs.FirstFetches.{keep_mail}
use Rattle.local_fetch.proofs.laws.first_fetches_keep_mail.Goals as goal

pub returns : goal.returns
returns g c = keep_mail _ _ _ _ c.empty_accounts_hold.ensures c.fetches_keep_promises.ensures
