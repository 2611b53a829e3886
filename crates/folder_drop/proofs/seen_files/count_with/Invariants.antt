use Rattle.std.{proofs.Common.◌≡◌, specs.List.AllWithin}
use Rattle.folder_drop.specs.Places.{base_of_file}
use Rattle.folder_drop.proofs.seen_files.count_with.Given as goal

abbrev pub invariant-loop-i : goal.invariant-loop-i
invariant-loop-i l = AllWithin (λ file. base_of_file file ≡ l.base) l.files 0 l.i
