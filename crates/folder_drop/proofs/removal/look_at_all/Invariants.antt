use Rattle.std.proofs.Common.{take}
use Rattle.folder_drop.specs.Removal.{AreNamesakes}
use Rattle.folder_drop.proofs.removal.look_at_all.Given as goal

abbrev pub invariant-loop-file : goal.invariant-loop-file
invariant-loop-file g l = AreNamesakes (g.D.MailFiles.found l.files) l.listed (take l.file-index l.seen) l.found.items
