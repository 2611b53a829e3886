use Rattle.std.proofs.Common.{length, Contains}
use Rattle.folder_drop.specs.declared.listed_file.ListedFile.{ListedFile}
use Rattle.folder_drop.proofs.listed_file.CountedSizes.size_of.Given as goal

abbrev pub invariant-loop-self : goal.invariant-loop-self
invariant-loop-self l = (file : ListedFile) → Contains l.self.files.now file → Contains l.fn.self.files.now file

abbrev pub decreases-loop-self : goal.decreases-loop-self
decreases-loop-self l = length l.self.files.now
