use Rattle.std.proofs.Common.{◌∙◌}
use Rattle.folder_drop.specs.Removal.{BearsOne, IsOther}
use Rattle.folder_drop.proofs.{RemovalLemmas.contains_at, TakenLemmas.takes_none}
use Rattle.folder_drop.proofs.removal.remove_with.Goals as goal

pub returns-in_err-place-clause-takes : goal.returns-in_err-place-clause-takes
returns-in_err-place-clause-takes g c = takes_none g.D.MailFiles.path g.D.MailFiles.looked g.D.MailFiles.removed
    g.D.MailFiles.sound
    g.D.MailFiles.files (BearsOne c.args.all.now) c.args.files.now

pub returns-in_err-two-clause-takes : goal.returns-in_err-two-clause-takes
returns-in_err-two-clause-takes g c = takes_none g.D.MailFiles.path g.D.MailFiles.looked g.D.MailFiles.removed
    g.D.MailFiles.sound
    g.D.MailFiles.files (BearsOne c.args.all.now) c.args.files.now

pub returns-clause-removes : goal.returns-clause-removes
returns-clause-removes g c =
    let found = rw c.in-Some.is at c.in_ok-place.ensures.found in
    let there = contains_at (IsOther g.D.File.Read.remaining (g.D.MailFiles.opened c.args.files.now) c.args.listed.now) c.args.all.now
    c.in-Some.place c.index-all-place.result found.0 c.index-all-place.is found.1 in (
      c.in_ok-two.ensures.0 ∙ c.as_str-listed.ensures.value,
      (c.index-all-place.result, there.0, there.1, c.in_ok-two.ensures.1),
    )

pub returns-clause-takes : goal.returns-clause-takes
returns-clause-takes g c = takes_none g.D.MailFiles.path g.D.MailFiles.looked g.D.MailFiles.removed g.D.MailFiles.sound
    g.D.MailFiles.files (BearsOne c.args.all.now) c.args.files.now
