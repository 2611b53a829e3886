use Rattle.mail_store.proofs.SettlingLemmas as lemma
use Rattle.mail_store.proofs.mboxrd.settling.whole_entries_count.Goals as goal

pub returns : goal.returns
returns c = lemma.whole_counts
