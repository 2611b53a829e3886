use Rattle.std.specs.List.{AllWithin}
use Rattle.folder_drop.specs.Removal.{MayGo}
use Rattle.folder_drop.proofs.removal.place_of_other.Given as goal

abbrev pub invariant-loop-place : goal.invariant-loop-place
invariant-loop-place g l = AllWithin (MayGo g.D.File.Read.remaining (g.D.MailFiles.opened l.files) l.listed) l.others 0 l.place
