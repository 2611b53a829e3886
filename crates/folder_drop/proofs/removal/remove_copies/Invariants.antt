use Rattle.std.{proofs.Common.◌≢◌, specs.List.AllWithin}
use Rattle.folder_drop.specs.{MailFiles.TakesSome, Removal.BearsOne}
use Rattle.folder_drop.proofs.removal.remove_copies.Given as goal

abbrev pub invariant-loop-file : goal.invariant-loop-file
invariant-loop-file g l = AllWithin (λ file. file.stamp.number ≢ l.listed.stamp.number
    → g.D.MailFiles.removed l.files file.file file.stamp.number) l.all 0 l.file-index
    × TakesSome g.D.MailFiles.path g.D.MailFiles.looked g.D.MailFiles.removed g.D.MailFiles.sound g.D.MailFiles.files
    (BearsOne l.all) l.initial.files l.files
