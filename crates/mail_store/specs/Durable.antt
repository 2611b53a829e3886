-- What of a file is durable, and what a crash may leave of it.
use Rattle.std.specs.Prelude.{◌≡◌, ◌⊎◌, ◌<◌, ◌≤◌, ◌/◌, ℕ, List, [], ◌∷◌, ◌++◌, length, take, slice_index, Bool, false}
use Rattle.std.specs.Prelude.{Option, Some, None, option_map}
use Rattle.mail_store.specs.Settling.{block_size}

-- a file: its bytes, those that it had when it was last flushed, how many of these weren't cut off since,
-- and whether a flush of it was refused, after which nothing more of it is known to be durable
pub record Blob : Type 0 where
  pub content : List ℕ
  pub flushed : List ℕ
  pub uncut : ℕ
  pub is_doubted : Bool

-- what a name leads to, None for no file, and what it led to before, since the names were last flushed
pub record Disk : Type 0 where
  pub now : Option Blob
  pub older : List (Option Blob)

abbrev pub content_in : Blob → List ℕ
content_in b = b.content

-- a file whose bytes are durable
abbrev pub secured : List ℕ → Blob
secured bytes = record { content = bytes; flushed = bytes; uncut = length bytes; is_doubted = false }

-- the bytes that calls see
abbrev pub seen_on : Disk → Option (List ℕ)
seen_on disk = option_map content_in disk.now

-- all that calls see is durable
abbrev pub all_durable : Option (List ℕ) → Disk
all_durable content = record { now = option_map secured content; older = [] }

-- ---- a crash

-- the byte at a place of what is left of a file: the one in memory, the one that was flushed, or zero, and then all
-- after it in its block are zeros too
abbrev pub IsByteLeft : List ℕ → List ℕ → List ℕ → ℕ → Type 0
IsByteLeft content flushed left i =
    ((i < length content) × (slice_index left i ≡ slice_index content i))
    ⊎ (((i < length flushed) × (slice_index left i ≡ slice_index flushed i))
    ⊎ ((i < length content) × ((j : ℕ) → i ≤ j → j < length left → j / block_size ≡ i / block_size
    → slice_index left j ≡ 0)))

-- what is left of a file that reached the disk in part: the bytes that were flushed and not cut off since, and
-- others after them. It has at most as many bytes as in memory, or exactly as many as were flushed.
pub record IsTorn (content flushed : List ℕ) (uncut : ℕ) (left : List ℕ) : Type 0 where
  pub behind : List ℕ
  pub kept : left ≡ take uncut content ++ behind
  pub most : (length left ≤ length content) ⊎ (length left ≡ length flushed)
  pub each : (i : ℕ) → uncut ≤ i → i < length left → IsByteLeft content flushed left i

-- a crash may leave these bytes of a file: those that were flushed, those in memory, or a part of each
abbrev pub IsLeft : Blob → List ℕ → Type 0
IsLeft b left = (left ≡ b.flushed) ⊎ ((left ≡ b.content) ⊎ IsTorn b.content b.flushed b.uncut left)

-- the same for what a name leads to: a file, or none
abbrev pub IsLeftOf : Option Blob → Option (List ℕ) → Type 0
IsLeftOf (Some b) (Some left) = IsLeft b left
IsLeftOf (Some b) None = ⊥
IsLeftOf None (Some left) = ⊥
IsLeftOf None None = Unit {0}

-- the name led to this, since the names were last flushed
abbrev pub IsLeftOfOne : List (Option Blob) → Option (List ℕ) → Type 0
IsLeftOfOne [] left = ⊥
IsLeftOfOne (was ∷ older) left = IsLeftOf was left ⊎ IsLeftOfOne older left

-- a crash may leave these bytes under the name, or no file
unfoldable pub MayLeave : Disk → Option (List ℕ) → Type 0
MayLeave disk left = IsLeftOf disk.now left ⊎ IsLeftOfOne disk.older left

-- the file, if there is one, is as it was last flushed, and no flush of it was refused
abbrev pub IsFlushed : Option Blob → Type 0
IsFlushed None = Unit {0}
IsFlushed (Some b) = b ≡ secured b.content

-- no flush of the file was refused
abbrev pub Trusted : Option Blob → Type 0
Trusted None = Unit {0}
Trusted (Some b) = b.is_doubted ≡ false

-- what calls see is durable, and so is the name
pub record IsDurable (disk : Disk) : Type 0 where
  pub named : disk.older ≡ []
  pub flushed : IsFlushed disk.now

-- a crash
pub record Crashes (old new : Disk) : Type 0 where
  pub left : MayLeave old (seen_on new)
  pub durable : IsDurable new

-- a law: a crash leaves what calls see of a file that is durable
abbrev pub DurableIsLeft : Type 0
DurableIsLeft = (disk : Disk) (left : Option (List ℕ)) → IsDurable disk → MayLeave disk left → left ≡ seen_on disk

-- a law: whatever a crash may leave is there after some crash
abbrev pub CrashesHappen : Type 0
CrashesHappen = (old : Disk) (left : Option (List ℕ)) → MayLeave old left
    → (new : Disk) × Crashes old new × (seen_on new ≡ left)
