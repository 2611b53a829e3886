use Rattle.local_fetch.proofs.FirstFetches.{keep_entries}
use Rattle.local_fetch.proofs.laws.mbox_first_fetches_keep_mail.Goals as goal

pub returns : goal.returns
returns g c = keep_entries _ _ _ _ c.mbox_starts.ensures c.mbox_fetches_keep_promises.ensures
