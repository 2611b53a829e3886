use Rattle.std.proofs.Common.{◌≡◌, ◌++◌, map}
use Rattle.folder_drop.specs.Places.{folder_and_name, named_in}
use Rattle.folder_drop.proofs.maildir_folders.add_files.Given as goal

abbrev pub invariant-loop-name : goal.invariant-loop-name
invariant-loop-name l = map folder_and_name l.files.items
    ≡ map folder_and_name l.initial.files.items ++ named_in l.folder l.yielded
