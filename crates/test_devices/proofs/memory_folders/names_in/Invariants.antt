use Rattle.std.proofs.Common.{◌≡◌, map, take, string_bytes}
use Rattle.folder_store.specs.MailFolders.{entries_in, name_at}
use Rattle.test_devices.specs.MemoryFolders.{stored_file}
use Rattle.test_devices.proofs.memory_folders.names_in.Given as goal

-- the names taken so far are those of the files in front
abbrev pub invariant-loop-file : goal.invariant-loop-file
invariant-loop-file l = map string_bytes l.names.items ≡ map name_at (entries_in l.folder (map stored_file (take l.file-index l.files)))
