use Rattle.local_fetch.proofs.FetchLemmas.{from_nothing}
use Rattle.local_fetch.proofs.laws.promises_hold_in_folders.Goals as goal

pub returns : goal.returns
returns c = from_nothing _ _ _ _ c.empty_accounts_hold.ensures c.fetches_keep_promises.ensures
