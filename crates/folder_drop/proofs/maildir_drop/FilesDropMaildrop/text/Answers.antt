use Rattle.std.proofs.Common.{ap, subst}
use Rattle.folder_drop.specs.{declared.maildir_drop.known_mail.KnownMail.KnownMail, FilesMail.{FilesMail, mail_of}}
use Rattle.folder_drop.proofs.KnownLemmas.{gives_text}
use Rattle.folder_drop.proofs.maildir_drop.FilesDropMaildrop.text.Goals as goal

pub returns-in-Ok-clause-gives : goal.returns-in-Ok-clause-gives
returns-in-Ok-clause-gives g c = λ s.
    let r = c.self.inside in
    let same = c.in-Ok.ensures.same in
    let sound = subst (λ (k : KnownMail g.row.D.Denot g.row.D-File.Denot). g.D.MailFiles.sound k.files) same s.0 in
    let mail = λ (k : KnownMail g.row.D.Denot g.row.D-File.Denot). let drop : FilesMail g.row.D.Denot =
    record { files = k.files; listed = k.listing.files; failures = r.failures; removals = r.removals } in
    mail_of g.D.MailFiles.files drop in
    rw (← c.self.view_is) (
      sound,
      s.1,
      (
        ap mail same,
        gives_text (g.D.MailFiles.files r.known.files) r.known.listing.files c.args.i c.in-Ok.text.items c.in-Ok.ensures.within
            (c.in-Ok.ensures.own sound (c.self.invariant sound)),
      ),
    )
