use Rattle.std.proofs.Common.{◌≡◌, map, take}
use Rattle.folder_drop.specs.{MemoryNames.place_of_name, Places.folder_and_name}
use Rattle.folder_drop.proofs.memory_names.MemoryNames.listed.Given as goal

abbrev pub invariant-loop-one : goal.invariant-loop-one
invariant-loop-one l = map folder_and_name l.files.items ≡ map place_of_name (take l.one-index l.one-items)
