use Rattle.std.proofs.Common.{refl}
use Rattle.local_fetch.proofs.Twice.{seconds_fetch_nothing}
use Rattle.local_fetch.proofs.laws.seconds_fetch_nothing_in_memory.Goals as goal

pub returns : goal.returns
returns c = seconds_fetch_nothing _ _ _ _ (λ d. refl) c.empty_accounts_hold.ensures c.fetches_keep_promises.ensures
    c.first_fetches_keep_mail.ensures
