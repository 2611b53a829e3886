use Rattle.mail_store.proofs.LossLemmas.{left_before, left_of_both}
use Rattle.mail_store.proofs.maildir.loss.calls_leave_no_more.Goals as goal

pub returns-clause-flushing : goal.returns-clause-flushing
returns-clause-flushing c = left_before

pub returns-clause-coming : goal.returns-clause-coming
returns-clause-coming c = left_of_both
