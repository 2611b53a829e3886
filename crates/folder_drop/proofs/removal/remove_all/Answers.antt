use Rattle.folder_drop.specs.Removal.{BearsOne}
use Rattle.folder_drop.proofs.{RemovalLemmas.each_removed, TakenLemmas.takes_then}
use Rattle.folder_drop.proofs.removal.remove_all.Goals as goal

pub returns-in_err-remove_names-clause-takes : goal.returns-in_err-remove_names-clause-takes
returns-in_err-remove_names-clause-takes g c = takes_then g.D.MailFiles.path g.D.MailFiles.looked g.D.MailFiles.removed
    g.D.MailFiles.sound g.D.MailFiles.files (BearsOne c.args.all.now) c.args.files.now c.remove_copies.new.files c.remove_names.new.files
    c.remove_copies.ensures.takes c.remove_names.ensures.takes

pub returns-clause-removed : goal.returns-clause-removed
returns-clause-removed g c = each_removed (g.D.MailFiles.removed c.remove_names.new.files) c.args.listed.now.stamp.number c.args.all.now
    (λ k d within other. c.remove_names.ensures.takes.names _ _ (c.in_ok-remove_copies.ensures.removed k d within other))
    c.in_ok-remove_names.ensures.removed

pub returns-clause-takes : goal.returns-clause-takes
returns-clause-takes g c = takes_then g.D.MailFiles.path g.D.MailFiles.looked g.D.MailFiles.removed
    g.D.MailFiles.sound g.D.MailFiles.files (BearsOne c.args.all.now) c.args.files.now c.remove_copies.new.files c.remove_names.new.files
    c.remove_copies.ensures.takes c.remove_names.ensures.takes
