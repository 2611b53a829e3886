use Rattle.std.proofs.Common.{[], refl, inl, inr}
use Rattle.mail_store.specs.Maildir.{maildir_refused}
use Rattle.session_parts.specs.Target.{no_maildir}
use Rattle.getmail_program.proofs.doubt.fault_of.Goals as goal

pub returns-in-NotFound-clause-refuses : goal.returns-in-NotFound-clause-refuses
returns-in-NotFound-clause-refuses c = inr (no_maildir, no_maildir, [], inl (refl, refl, refl))

pub returns-in_default-clause-refuses : goal.returns-in_default-clause-refuses
returns-in_default-clause-refuses c = inr (no_maildir, maildir_refused no_maildir, [], inr (refl, refl))
