use Rattle.std.proofs.Common.{◌≡◌, map, take}
use Rattle.folder_store.specs.MailCalls.{entry_flushed_by}
use Rattle.test_devices.specs.MemoryFolders.{stored_file}
use Rattle.test_devices.proofs.memory_folders.flushed_files.Given as goal

-- the files taken so far are those in front, flushed
abbrev pub invariant-loop-file : goal.invariant-loop-file
invariant-loop-file l = map stored_file l.flushed.items ≡ map (entry_flushed_by l.stems) (map stored_file (take l.file-index l.files))
