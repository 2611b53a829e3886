-- What a loss of power may leave of a folder.
use Rattle.std.specs.Prelude.{◌≡◌, ◌↔◌, ℕ, List, [], ◌∷◌, bytes_eq, if◌then◌else◌, Option, Some, None, ◌⊎◌}
use Rattle.mail_store.specs.Durable.{Blob, Disk, IsDurable, IsLeftOf, MayLeave, secured}
use Rattle.folder_store.specs.FileFolder.{Directory, DirEntry, Older, entry, find, content_at}

-- the file of a name that is left with these bytes, all of them durable, or none
abbrev pub left_under : List ℕ → Option (List ℕ) → List DirEntry
left_under name None = []
left_under name (Some bytes) = entry name (secured bytes) ∷ []

-- the name led to this, since the names were last flushed
abbrev pub WasOnce : List Older → List ℕ → Option (List ℕ) → Type 0
WasOnce [] name left = ⊥
WasOnce (o ∷ older) name left = ((o.name ≡ name) × IsLeftOf o.was left) ⊎ WasOnce older name left

-- what a name led to, of what names led to before
abbrev pub older_at : List ℕ → List Older → List (Option Blob)
older_at name [] = []
older_at name (o ∷ older) = if bytes_eq o.name name then o.was ∷ older_at name older else older_at name older

-- what is durable under a name
abbrev pub disk_at : Directory → List ℕ → Disk
disk_at d name = record { now = find name d.entries; older = older_at name d.older }

-- what a loss of power may leave under a name: the bytes of a file, or no file
abbrev pub MayBe : Directory → List ℕ → Option (List ℕ) → Type 0
MayBe d name left = MayLeave (disk_at d name) left

-- what calls see under the name is durable
abbrev pub IsDurableIn : Directory → List ℕ → Type 0
IsDurableIn d name = IsDurable (disk_at d name)

-- the folder after a loss of power: under each name is something that may be left there, whatever is under the
-- others, and all of it is durable
pub record Loses (old new : Directory) : Type 0 where
  pub can_make : new.can_make ≡ old.can_make
  pub each : (name : List ℕ) → MayBe old name (content_at new name)
  pub durable : (name : List ℕ) → IsDurableIn new name

-- a loss of power leaves one of these under the name, and each of them may be what it leaves
abbrev pub PowerLeaves : Type 0
PowerLeaves = (old : Directory) (name : List ℕ) (left : Option (List ℕ))
    → MayBe old name left ↔ ((new : Directory) × Loses old new × (content_at new name ≡ left))
