use Rattle.folder_drop.proofs.DropLemmas.{is_listing}
use Rattle.folder_drop.proofs.maildir_drop.listing.list_now.Goals as goal

pub returns-clause-lists : goal.returns-clause-lists
returns-clause-lists g c = λ s right.
    let files = c.args.files.now in
    is_listing (g.D.MailFiles.files files) c.in_ok-listed.listed.files.items (g.met.D.MailFiles.whole files s)
    (c.in_ok-listed.ensures.chosen s (g.met.D.MailFiles.lists files _ s c.in_ok-found.ensures.told) right)
