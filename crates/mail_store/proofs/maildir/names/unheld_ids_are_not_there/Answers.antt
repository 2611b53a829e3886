use Rattle.std.proofs.lemmas.Bool.{both_ways}
use Rattle.mail_store.proofs.MaildirLemmas.{held_where_there}
use Rattle.mail_store.proofs.maildir.names.unheld_ids_are_not_there.Goals as goal

pub returns : goal.returns
returns c = λ account uid size maildir a unheld there. both_ways _ unheld (held_where_there account uid size maildir a there)
