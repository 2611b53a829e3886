-- What is known of the files that a folder has open.
use Rattle.std.specs.Prelude.{◌≡◌, ◌≢◌, ◌⊎◌, ◌++◌, ℕ, List, None, Some, Result, Ok, Err, string_bytes}
use Rattle.system_calls.specs.declared.refusal.Denial.{Denial}
use Rattle.folder_store.specs.{
  declared.calls.{FileCalls.Ghosts as CallsGhosts, FileStat.FileStat, OpenHandle.Ghosts as HandleGhosts},
  declared.handles.{Changed.Changed, Handles.Handles, Names.Names},
  Calls.Tree,
  FileFolder.find,
  Handles.{KeepsHandle, IsTheOne},
  Under.front_of,
}

-- it is known which folder is open, by what fstat(2) told of it
abbrev pub IsAsTold : {F : Type 0} → (F → FileStat → Type 0) → Names F → Type 0
IsAsTold told names = ∥ ((stat : FileStat) × told names.folder stat × IsTheOne names stat) ∥₁

-- while the system does what its calls promise, the file that was changed last is the one that its name leads to, and
-- the open folder is that of the path; which folder that is was told of it
pub record KeptHolds {C M F : Type 0} (system : CallsGhosts C M F) (handle : HandleGhosts F) (calls : C)
    (folder : List ℕ) (handles : Handles F) : Type 0 where
  pub changed : (c : Changed F) → handles.changed ≡ Some c → system.sound calls → handle.opened c.file
      ≡ record { path = front_of folder ++ string_bytes c.name; turn = (system.tree calls).turn; place = 0 }
  pub there : (c : Changed F) → handles.changed ≡ Some c → system.sound calls
      → find (front_of folder ++ string_bytes c.name) (system.tree calls).directory.entries ≢ None
  pub names : (n : Names F) → handles.names ≡ Some n → system.sound calls → (handle.opened n.folder).path ≡ folder
  pub which : (n : Names F) → handles.names ≡ Some n → IsAsTold handle.told n

-- a file's size is what fstat(2) told of the handle that is kept then, the one that was kept before, if one was; and it
-- told that the file has a name still. After a refusal none is kept
abbrev pub MeasuresKept : {F : Type 0} → (F → FileStat → Type 0) → (old : Handles F) → (name : List ℕ)
    → Result ℕ Denial → (new : Handles F) → Type 0
MeasuresKept {F = F} told old name (Ok len) new = (c : Changed F) × (stat : FileStat) × (new.changed ≡ Some c)
    × (string_bytes c.name ≡ name) × ((was : Changed F) → KeepsHandle old name was → c ≡ was)
    × told c.file stat × (stat.links ≢ 0) × (len ≡ stat.len)
MeasuresKept told old name (Err d) new = new.changed ≡ None

-- a folder is open at a path: it is the one that the path leads to now, or the one that was kept, and stat(2) of the
-- path told just that one
abbrev pub OpensNames : {F : Type 0} → HandleGhosts F → (found : FileStat → Type 0) → Tree → (folder : List ℕ)
    → Handles F → Names F → Type 0
OpensNames handle found t folder handles names = ((handle.opened names.folder).path ≡ folder)
    × (((handle.opened names.folder).turn ≡ t.turn)
    ⊎ ((stat : FileStat) × found stat × (handles.names ≡ Some names) × IsTheOne names stat))
