use Rattle.local_fetch.proofs.FetchLemmas.{mbox_from_nothing}
use Rattle.local_fetch.proofs.laws.mbox_promises_hold_in_folders.Goals as goal

pub returns : goal.returns
returns c = mbox_from_nothing _ _ _ _ c.mbox_starts.ensures c.mbox_fetches_keep_promises.ensures
