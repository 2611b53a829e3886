use Rattle.std.proofs.Common.{◌≡◌}
use Rattle.folder_drop.specs.{MailFiles.Stays, Removal.{SeesAll, TakesCopies, WereSeen}, SeenFiles.those_seen}
use Rattle.folder_drop.proofs.removal.remove.Given as goal

abbrev pub invariant-loop : goal.invariant-loop
invariant-loop g l = WereSeen (g.D.MailFiles.told l.files) l.initial.seen (those_seen l.seen.files)
    × Stays g.D.MailFiles.path g.D.MailFiles.looked l.initial.files l.files
    × (l.seen.are_removed ≡ l.initial.seen.are_removed)
    × (g.D.MailFiles.sound l.files → g.D.MailFiles.sound l.initial.files
    × (SeesAll (g.D.MailFiles.files l.initial.files) (those_seen l.initial.seen.files)
    → SeesAll (g.D.MailFiles.files l.files) (those_seen l.seen.files)
    × TakesCopies l.listed (g.D.MailFiles.files l.initial.files) (g.D.MailFiles.files l.files)))
