use Rattle.mail_store.proofs.MboxLemmas.{groups_go_on}
use Rattle.mail_store.proofs.mboxrd.entry.entries_may_follow_texts.Goals as goal

pub returns : goal.returns
returns c = λ file texts was. rw was.whole (groups_go_on was.groups was.are)
