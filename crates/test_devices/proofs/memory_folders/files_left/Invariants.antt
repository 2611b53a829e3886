use Rattle.std.proofs.Common.{map, take}
use Rattle.folder_store.specs.MailPower.{EntriesLeftAs}
use Rattle.test_devices.specs.MemoryFolders.{stored_file}
use Rattle.test_devices.proofs.memory_folders.files_left.Given as goal

-- what was put in so far is left of the files in front
abbrev pub invariant-loop-i : goal.invariant-loop-i
invariant-loop-i l = EntriesLeftAs (map stored_file (take l.i l.files)) (map stored_file l.left.items)
