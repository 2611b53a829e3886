use Rattle.mail_store.proofs.SettlingLemmas as lemma
use Rattle.mail_store.proofs.mboxrd.settling.leftovers_of_entries_are_settled.Goals as goal

pub returns : goal.returns
returns c = lemma.left_settled
