use Rattle.mail_store.proofs.MboxLemmas.{front_ends}
use Rattle.mail_store.proofs.mboxrd.entry.front_edges.Goals as goal

pub returns : goal.returns
returns c = λ was is within tail. rw (is, tail) (front_ends c.args.size was c.requires within)
