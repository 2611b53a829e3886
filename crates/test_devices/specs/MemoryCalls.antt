-- A file system in memory, call by call.
use Rattle.std.specs.{
  Prelude.{◌≡◌, ◌≢◌, ℕ, List, false, length, Some, None, string_bytes},
  IoError.error_kind,
  declared.io.ErrorKind.{ErrorKind, TheVariants.{InvalidInput, NotFound, Unsupported}},
}
use Rattle.system_calls.specs.declared.refusal.Denial.{Denial}
use Rattle.mail_store.specs.Durable.{Blob}
use Rattle.folder_store.specs.{Calls.{OpenPath, Tree}, FileFolder.find, HostAnswers.tells_odd}
use Rattle.test_devices.specs.declared.memory_calls.{MemoryCalls.MemoryCalls, MemoryOpened.MemoryOpened}

-- an open file or folder
abbrev pub memory_opened : MemoryOpened → OpenPath
memory_opened file = record { path = string_bytes file.path; turn = file.turn; place = file.place }

-- the files that have names
abbrev pub memory_tree : MemoryCalls → Tree
memory_tree system = record { directory = system.files; turn = system.turn }

-- the file at a path has so many bytes
abbrev pub HasSize : Tree → List ℕ → ℕ → Type 0
HasSize t path size = (b : Blob) × (find path t.directory.entries ≡ Some b) × (size ≡ length b.content)

-- no file is at a path
abbrev pub IsBare : Tree → List ℕ → Type 0
IsBare t path = find path t.directory.entries ≡ None

-- a refusal that says nothing of the files
abbrev pub IsRefusalKind : ErrorKind → Type 0
IsRefusalKind kind =
    (kind ≢ NotFound) × (kind ≢ InvalidInput) × (kind ≢ Unsupported) × (tells_odd kind ≡ false)

abbrev pub IsRefusal : Denial → Type 0
IsRefusal d = IsRefusalKind (error_kind d.error)
