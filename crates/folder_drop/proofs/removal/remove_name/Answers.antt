use Rattle.folder_drop.specs.MailFiles.{Has}
use Rattle.folder_drop.proofs.TakenLemmas.{takes_none}
use Rattle.folder_drop.proofs.removal.remove_name.Goals as goal

pub returns-in_err-there-clause-takes : goal.returns-in_err-there-clause-takes
returns-in_err-there-clause-takes g c = takes_none g.D.MailFiles.path g.D.MailFiles.looked g.D.MailFiles.removed g.D.MailFiles.sound
    g.D.MailFiles.files (Has c.args.file.now.file) c.args.files.now

pub returns-in_err-check-clause-takes : goal.returns-in_err-check-clause-takes
returns-in_err-check-clause-takes g c = takes_none g.D.MailFiles.path g.D.MailFiles.looked g.D.MailFiles.removed g.D.MailFiles.sound
    g.D.MailFiles.files (Has c.args.file.now.file) c.args.files.now

pub unlink-requires : goal.unlink-requires
unlink-requires g c = (
  c.args.file.now.stamp.number,
  (c.in_ok-there.there, c.in_ok-there.ensures, c.in_ok-check.ensures.0, c.in_ok-check.ensures.1),
)

pub returns-clause-removed : goal.returns-clause-removed
returns-clause-removed g c = c.unlink.ensures.removed c.args.file.now.stamp.number
    (c.in_ok-there.there, c.in_ok-there.ensures, c.in_ok-check.ensures.0, c.in_ok-check.ensures.1)
