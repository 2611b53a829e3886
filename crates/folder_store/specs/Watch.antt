-- When a watched file is as this process left it.
use Rattle.std.specs.Prelude.{◌≡◌, ◌≢◌, ◌+◌, ℕ, Bool, true, false, Option, None, Some, Result, Ok, Err}
use Rattle.system_calls.specs.declared.refusal.Denial.{Denial}
use Rattle.folder_store.specs.declared.{calls.FileStat.FileStat, file_state.FileState.FileState, watch.Watch.Watch}

-- which file it is, its size and its time of change, as the system reports them
abbrev pub file_state_of : FileStat → FileState
file_state_of stat = record { device = stat.device; inode = stat.inode; size = stat.len; change = stat.change }

-- the same file, with so many octets more
pub record Grew (old new : FileState) (more : ℕ) : Type 0 where
  pub device : new.device ≡ old.device
  pub inode : new.inode ≡ old.inode
  pub size : new.size ≡ old.size + more

-- a file is as it was left, if that is known, and counts as left as it is now
abbrev pub IsAsItWas : Option FileState → FileState → Option FileState → Type 0
IsAsItWas None found left = left ≡ Some found
IsAsItWas (Some state) found left = (found ≡ state) × (left ≡ Some found)

-- a watched file is refused if it isn't as it was left
abbrev pub ChecksLeft : {T : Type 0} → Bool → Option FileState → FileState → Result T Denial → Option FileState → Type 0
ChecksLeft false was found (Ok done) left = left ≡ was
ChecksLeft true was found (Ok done) left = IsAsItWas was found left
ChecksLeft true (Some state) found (Err d) left = (found ≢ state) × (left ≡ Some state)
ChecksLeft _ _ _ (Err d) left = ⊥

-- after a change of this process it is refused if it didn't grow by what was added, and else is left as it is now
abbrev pub NotesLeft : {T : Type 0} → Option FileState → FileState → ℕ → Result T Denial → Option FileState → Type 0
NotesLeft None found more (Ok done) left = left ≡ None
NotesLeft (Some state) found more (Ok done) left = Grew state found more × (left ≡ Some found)
NotesLeft (Some state) found more (Err d) left = (Grew state found more → ⊥) × (left ≡ Some state)
NotesLeft _ _ _ (Err d) left = ⊥

-- ---- by what fstat(2) told of an open file

-- if it is watched, it was looked at, and is as it was left
abbrev pub IsSeenAsLeft : (FileStat → Type 0) → Bool → Option FileState → Option FileState → Type 0
IsSeenAsLeft told false was left = left ≡ was
IsSeenAsLeft told true was left = (stat : FileStat) × told stat × IsAsItWas was (file_state_of stat) left

-- if it was seen before, it was looked at, and has grown by what was added
abbrev pub IsSeenToGrow : (FileStat → Type 0) → Option FileState → ℕ → Option FileState → Type 0
IsSeenToGrow told None more left = left ≡ None
IsSeenToGrow told (Some state) more left = (stat : FileStat) × told stat × Grew state (file_state_of stat) more
    × (left ≡ Some (file_state_of stat))

-- if it is watched, it is left as it was seen
abbrev pub IsSeenAfter : (FileStat → Type 0) → Bool → Option FileState → Option FileState → Type 0
IsSeenAfter told false was left = left ≡ was
IsSeenAfter told true was left = (stat : FileStat) × told stat × (left ≡ Some (file_state_of stat))

-- a file was checked; a refusal changes nothing
abbrev pub ChecksWatched : {T : Type 0} → (FileStat → Type 0) → Watch → Result T Denial → Watch → Type 0
ChecksWatched told old (Ok done) new = (new.watches ≡ old.watches) × IsSeenAsLeft told old.watches old.left new.left
ChecksWatched told old (Err d) new = (new.watches ≡ old.watches) × (new.left ≡ old.left)

-- a file was looked at after so many bytes were added to it, likewise
abbrev pub NotesWatched : {T : Type 0} → (FileStat → Type 0) → Watch → ℕ → Result T Denial → Watch → Type 0
NotesWatched told old more (Ok done) new = (new.watches ≡ old.watches) × IsSeenToGrow told old.left more new.left
NotesWatched told old more (Err d) new = (new.watches ≡ old.watches) × (new.left ≡ old.left)

-- a file was checked before it was read
abbrev pub ReadsWatched : {F T : Type 0} → (F → FileStat → Type 0) → Watch → Result T Denial → Watch → Type 0
ReadsWatched {F = F} told old (Ok done) new = (file : F) × (new.watches ≡ old.watches)
    × IsSeenAsLeft (told file) old.watches old.left new.left
ReadsWatched told old (Err d) new = new.watches ≡ old.watches

-- a file was checked before so many bytes were appended to it, and was looked at afterwards
abbrev pub AppendsWatched : {F T : Type 0} → (F → FileStat → Type 0) → Watch → ℕ → Result T Denial → Watch → Type 0
AppendsWatched {F = F} told old more (Ok done) new = (before after : F) × (checked : Option FileState)
    × (new.watches ≡ old.watches) × IsSeenAsLeft (told before) old.watches old.left checked
    × IsSeenToGrow (told after) checked more new.left
AppendsWatched told old more (Err d) new = new.watches ≡ old.watches

-- a file was checked before it was cut, and was looked at afterwards
abbrev pub CutsWatched : {F T : Type 0} → (F → FileStat → Type 0) → Watch → Result T Denial → Watch → Type 0
CutsWatched {F = F} told old (Ok done) new = (file : F) × (checked : Option FileState) × (new.watches ≡ old.watches)
    × IsSeenAsLeft (told file) old.watches old.left checked × IsSeenAfter (told file) old.watches checked new.left
CutsWatched told old (Err d) new = new.watches ≡ old.watches
