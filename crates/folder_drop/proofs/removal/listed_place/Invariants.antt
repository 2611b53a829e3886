use Rattle.std.{proofs.Common.◌≢◌, specs.List.AllWithin}
use Rattle.folder_drop.specs.declared.removal.Namesake.{Namesake}
use Rattle.folder_drop.proofs.removal.listed_place.Given as goal

abbrev pub invariant-loop-place : goal.invariant-loop-place
invariant-loop-place l = AllWithin (λ (file : Namesake). file.stamp ≢ l.stamp) l.files 0 l.place
