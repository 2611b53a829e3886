use Rattle.std.proofs.Common.{[], refl, inr}
use Rattle.mail_store.specs.Maildir.{maildir_refused}
use Rattle.session_parts.specs.Target.{no_maildir}
use Rattle.getmail_program.proofs.doubt.doubt_by.Goals as goal

pub returns-in-Ok-2-clause-refuses : goal.returns-in-Ok-2-clause-refuses
returns-in-Ok-2-clause-refuses c = inr (no_maildir, maildir_refused no_maildir, [], inr (refl, refl))
