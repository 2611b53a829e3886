use Rattle.mail_store.proofs.MboxLemmas as lemma
use Rattle.mail_store.proofs.mboxrd.entry.files_have_one_reading.Goals as goal

pub returns : goal.returns
returns c = lemma.one_reading
