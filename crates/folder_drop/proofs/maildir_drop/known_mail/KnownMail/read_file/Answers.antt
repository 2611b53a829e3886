use Rattle.std.{proofs.Common.{◌<◌, List, length, subst}, specs.List.HoldsAt}
use Rattle.folder_drop.specs.{declared.listed_file.ListedFile.ListedFile, MaildirMail.{IsKnown, IsWholeText}}
use Rattle.folder_drop.proofs.maildir_drop.known_mail.KnownMail.read_file.Goals as goal

pub returns-clause-within : goal.returns-clause-within
returns-clause-within g c = subst (λ (l : List ListedFile). c.args.i < length l) c.files.ensures.files c.in_ok-text.ensures.read.1.0

pub returns-clause-own : goal.returns-clause-own
returns-clause-own g c = λ s knows d.
    let files = g.D.MailFiles.files c.args.self.now.files in
    (subst (λ (l : List ListedFile). HoldsAt (λ listed. IsKnown files listed → IsWholeText files listed c.in_ok-text.text.items) l c.args.i)
    c.files.ensures.files (c.in_ok-text.ensures.own s)) d (knows.known c.args.i d (returns-clause-within g c))
