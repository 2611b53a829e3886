-- The folders of a Maildir in memory, call by call.
use Rattle.std.specs.{
  Prelude.{◌≡◌, ℕ, false, true, List},
  declared.io.ErrorKind.{ErrorKind, TheVariants.NotFound},
}
use Rattle.mail_terms.specs.UniqueId.{has_id}
use Rattle.mail_store.specs.declared.maildir.disk.Folder.{Folder}
use Rattle.folder_store.specs.{
  HostAnswers.tells_odd,
  MailFolders.{Directories, closed_in},
  SharedCalls.{Shared, was_unopened},
}
use Rattle.test_devices.specs.declared.memory_shared.MemoryShared.{MemoryShared}

-- the folders, and when each was last listed
abbrev pub memory_shared : MemoryShared → Shared
memory_shared system =
    record { directories = system.folders; new_listed = system.new_listed; cur_listed = system.cur_listed }

-- a call for a name may be refused with an error of this kind: ENOENT only if nothing that can't be opened has it, and
-- as what such a thing is only if the last listing told it
abbrev pub MayRefuse : Directories → Folder → List ℕ → ErrorKind → Type 0
MayRefuse d folder name kind = (kind ≡ NotFound → has_id (closed_in folder d) name ≡ false)
    × (tells_odd kind ≡ true → was_unopened d folder name ≡ true)
