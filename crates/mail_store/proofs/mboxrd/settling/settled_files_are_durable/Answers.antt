use Rattle.mail_store.proofs.SettledLemmas.{settled_files_are_durable}
use Rattle.mail_store.proofs.mboxrd.settling.settled_files_are_durable.Goals as goal

pub returns : goal.returns
returns c = settled_files_are_durable
