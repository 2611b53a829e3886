use Rattle.session_parts.specs.Target.{no_maildir}
use Rattle.mail_store.proofs.MaildirLemmas.{none_taken}
use Rattle.session_parts.proofs.preview.look.Goals as goal

pub returns-in-Mboxrd-clause-looks : goal.returns-in-Mboxrd-clause-looks
returns-in-Mboxrd-clause-looks g c = λ d. let looks = c.look_at_mbox.ensures.looks d in
    rw c.in-Mboxrd.is (looks.0, (no_maildir, none_taken no_maildir, looks.1))
