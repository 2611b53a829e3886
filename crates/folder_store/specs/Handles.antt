-- What a folder has open.
use Rattle.std.specs.{
  Prelude.{◌≡◌, ◌⊎◌, ℕ, List, None, Some, true, false, Option, Result, Ok, Err, String, option_map, string_bytes},
  IoError.error_kind,
  Option.option_or,
}
use Rattle.system_calls.specs.declared.refusal.Denial.{Denial}
use Rattle.folder_store.specs.{
  Calls.flushes_none,
  declared.{calls.FileStat.FileStat, handles.{Changed.{Changed}, Handles.{Handles}, Names.Names}},
}

-- the handle by which a file was changed last is kept for its next change
abbrev pub KeepsHandle : {F : Type 0} → Handles F → (name : List ℕ) → Changed F → Type 0
KeepsHandle handles name c = (handles.changed ≡ Some c) × (string_bytes c.name ≡ name) × (handles.keeps_handle ≡ true)

-- a folder that is open is the one that the system reports
abbrev pub IsTheOne : {F : Type 0} → Names F → FileStat → Type 0
IsTheOne names stat = (names.device ≡ stat.device) × (names.inode ≡ stat.inode)

-- a handle is kept, or closed; the folder stays
abbrev pub KeepsOrCloses : {F : Type 0} → Handles F → Handles F → Changed F → Type 0
KeepsOrCloses old new changed = ((new.changed ≡ None) ⊎ (new.changed ≡ Some changed)) × (new.names ≡ old.names)

-- the path of a folder whose names weren't flushed because the system flushes no folders
abbrev pub unflushed_path : {F : Type 0} → Handles F → Option (List ℕ)
unflushed_path handles = option_map string_bytes handles.unflushed

-- the folders that hold what a path leads to by links were flushed; the first path of one that wasn't is known
abbrev pub FlushesTargets : {A : Type 0} → (List ℕ → Option (List ℕ) → Type 0) → List ℕ
    → (old new : Option (String A)) → Type 0
FlushesTargets {A = A} flushed path old new = (unflushed : Option (String A))
    × flushed path (option_map string_bytes unflushed) × (new ≡ option_or old unflushed)

-- the path of a folder is known as one whose names weren't flushed, unless another one is, if the answer to fsync(2)
-- says that the system flushes no folders
abbrev pub NotesFolder : {F T : Type 0} → List ℕ → (old : Handles F) → Result T Denial → (new : Handles F) → Type 0
NotesFolder folder old (Ok done) new = new.unflushed ≡ old.unflushed
NotesFolder folder old (Err d) new =
    (flushes_none (error_kind d.error) ≡ true → unflushed_path new ≡ option_or (unflushed_path old) (Some folder))
    × (flushes_none (error_kind d.error) ≡ false → new.unflushed ≡ old.unflushed)
