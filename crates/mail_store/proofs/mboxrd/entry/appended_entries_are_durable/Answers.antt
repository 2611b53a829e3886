use Rattle.mail_store.proofs.EntryLemmas.{entries_are_durable}
use Rattle.mail_store.proofs.mboxrd.entry.appended_entries_are_durable.Goals as goal

pub returns : goal.returns
returns c = entries_are_durable
