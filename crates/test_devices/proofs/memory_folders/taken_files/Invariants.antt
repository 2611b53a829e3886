use Rattle.std.proofs.Common.{◌≡◌, filter, map, take}
use Rattle.folder_store.specs.MailFolders.{is_taken}
use Rattle.test_devices.specs.MemoryFolders.{stored_file}
use Rattle.test_devices.proofs.memory_folders.taken_files.Given as goal

-- the files put in so far are those of the files in front that were taken away
abbrev pub invariant-loop-file : goal.invariant-loop-file
invariant-loop-file l = map stored_file l.taken.items ≡ filter is_taken (map stored_file (take l.file-index l.files))
