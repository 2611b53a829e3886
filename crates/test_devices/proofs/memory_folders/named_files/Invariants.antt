use Rattle.std.proofs.Common.{◌≡◌, map, take}
use Rattle.folder_store.specs.MailCalls.{named_by}
use Rattle.test_devices.specs.MemoryFolders.{stored_file}
use Rattle.test_devices.proofs.memory_folders.named_files.Given as goal

-- the files taken so far are those in front, with the names flushed
abbrev pub invariant-loop-file : goal.invariant-loop-file
invariant-loop-file l = map stored_file l.named.items ≡ map (named_by l.folder) (map stored_file (take l.file-index l.files))
