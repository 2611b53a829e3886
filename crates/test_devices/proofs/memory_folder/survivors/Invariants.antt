use Rattle.std.proofs.Common.{map, take}
use Rattle.test_devices.specs.MemoryFolder.{Survive, folder_entries, older_of}
use Rattle.test_devices.proofs.memory_folder.survivors.Given as goal

-- what was put in so far is left of the files in front
abbrev pub invariant-loop-i : goal.invariant-loop-i
invariant-loop-i l = Survive (map older_of l.older) (folder_entries (take l.i l.files)) (folder_entries l.left.items)
