-- What each call of a file device does to what of the file is durable, for either outcome, and what a crash leaves.
use Rattle.std.specs.Prelude.{◌≡◌, ◌⊎◌, ℕ, min, List, [], ◌∷◌, ◌++◌, length, take, true, Option, Some, option_map}
use Rattle.std.specs.Prelude.{Result, Ok}
use Rattle.std.specs.Prelude.{Err, OnOk, if◌then◌else◌}
use Rattle.mail_store.specs.{
  declared.fault.StoreFault.{StoreFault, TheVariants.{Missing, NotMbox}},
  Durable.{Blob, Disk, IsDurable, Trusted, MayLeave, all_durable, secured, seen_on},
  Power.{LeavesCut, LeavesEither, LeavesFront, LeavesLonger, LeavesNoMore, LeavesPart},
}

-- a file with bytes appended
abbrev pub appended : Blob → List ℕ → Blob
appended b bytes = record b { content = b.content ++ bytes }

-- the first bytes of a file
abbrev pub cut : Blob → ℕ → Blob
cut b len = record b { content = take len b.content; uncut = min len b.uncut }

-- a file after a flush that was answered Ok: its bytes are durable, unless an earlier flush of it was refused, since a
-- system may have given up what that one should have written
abbrev pub flushed : Blob → Blob
flushed b = record b {
  flushed = if b.is_doubted then b.flushed else b.content;
  uncut = if b.is_doubted then b.uncut else length b.content;
}

-- a file after a flush that was refused
abbrev pub doubted : Blob → Blob
doubted b = record b { is_doubted = true }

-- a file once a flush of it was asked for and refused, or not asked for
abbrev pub MayBeFlushed : Blob → Blob → Type 0
MayBeFlushed b c = (c ≡ b) ⊎ ((c ≡ flushed b) ⊎ (c ≡ doubted b))

-- ---- a call that flushes what it reads

-- the file was flushed, if there is one
abbrev pub file_flushed : Disk → Disk
file_flushed disk = record disk { now = option_map flushed disk.now }

-- and then its name
abbrev pub all_flushed : Disk → Disk
all_flushed disk = record { now = option_map flushed disk.now; older = [] }

-- one of these flushes was refused, before or after it was done
abbrev pub MayFlush : Disk → Disk → Type 0
MayFlush old new = (new ≡ old)
    ⊎ ((new ≡ file_flushed old) ⊎ ((new ≡ record old { now = option_map doubted old.now }) ⊎ (new ≡ all_flushed old)))

-- the file and then its name were flushed
abbrev pub FlushesBoth : {T : Type 0} → Disk → Result T StoreFault → Disk → Type 0
FlushesBoth old (Ok done) new = new ≡ all_flushed old
FlushesBoth old (Err fault) new = MayFlush old new

-- there is no file; it was flushed, but isn't what was wanted; or the call was refused
abbrev pub FailsDisk : Disk → StoreFault → Disk → Type 0
FailsDisk old Missing new = new ≡ old
FailsDisk old NotMbox new = new ≡ all_flushed old
FailsDisk old fault new = MayFlush old new

-- the file and its name were flushed
abbrev pub FlushesDisk : {T : Type 0} → Disk → Result T StoreFault → Disk → Type 0
FlushesDisk old (Ok done) new = new ≡ all_flushed old
FlushesDisk old (Err fault) new = FailsDisk old fault new

-- they were once, or twice
abbrev pub FlushesTwice : {T : Type 0} → Disk → Result T StoreFault → Disk → Type 0
FlushesTwice old result new = FlushesDisk old result new ⊎ FlushesDisk (all_flushed old) result new

-- `load`, `edges` and `read_at`: a call told this of what calls see, and flushed it
abbrev pub ReadsDisk : {T : Type 0} → (Option (List ℕ) → Result T StoreFault → Type 0) → Disk → Result T StoreFault
    → Disk → Type 0
ReadsDisk Tells old result new = Tells (seen_on old) result × FlushesDisk old result new

-- `peek` and `peek_edges`: a call told this of what calls see
abbrev pub PeeksDisk : {T : Type 0} → (Option (List ℕ) → Result T StoreFault → Type 0) → Disk → Result T StoreFault
    → Disk → Type 0
PeeksDisk Tells old result new = Tells (seen_on old) result × (new ≡ old)

-- a call told this of what calls see, and changed nothing of that
abbrev pub LooksOn : {T : Type 0} → (Option (List ℕ) → Result T StoreFault → Type 0) → Disk → Result T StoreFault → Disk
    → Type 0
LooksOn Tells old result new = Tells (seen_on old) result × (seen_on new ≡ seen_on old)

-- ---- a call that writes

-- the file became one to which it has the relation
abbrev pub Becomes : (Blob → Blob → Type 0) → Disk → Disk → Type 0
Becomes R old new = (b c : Blob) × (old.now ≡ Some b) × R b c × (new ≡ record old { now = Some c })

-- the file became another; a refused call did a part of this, or nothing
abbrev pub BecomesInPart : {T : Type 0} → (Blob → Blob → Type 0) → (Blob → Blob → Type 0) → Disk → Result T StoreFault
    → Disk → Type 0
BecomesInPart Done Part old (Ok done) new = Becomes Done old new
BecomesInPart Done Part old (Err fault) new = (new ≡ old) ⊎ Becomes Part old new

-- these bytes were appended to the file, and all of it was flushed
abbrev pub IsAppended : List ℕ → Blob → Blob → Type 0
IsAppended bytes b c = c ≡ flushed (appended b bytes)

-- the same; if there are no bytes, the file may also be as it was
abbrev pub IsSoFar : List ℕ → Blob → Blob → Type 0
IsSoFar bytes b c = ((bytes ≡ []) × (c ≡ b)) ⊎ IsAppended bytes b c

-- first some bytes were appended to the file and flushed, and then others that may be flushed
pub record IsPartAppended (first front : List ℕ) (b c : Blob) : Type 0 where
  pub so_far : Blob
  pub is_flushed : IsSoFar first b so_far
  pub is : MayBeFlushed (appended so_far front) c

-- some of these bytes were appended to the file, in this way
abbrev pub IsFrontAppended : List ℕ → Blob → Blob → Type 0
IsFrontAppended bytes b c = (first front rest : List ℕ) × (bytes ≡ first ++ (front ++ rest))
    × IsPartAppended first front b c

-- `append`: the bytes were appended, in one or several pieces, each flushed before the next
abbrev pub AppendsDisk : {T : Type 0} → Disk → List ℕ → Result T StoreFault → Disk → Type 0
AppendsDisk old bytes result new = BecomesInPart (IsAppended bytes) (IsFrontAppended bytes) old result new

-- `cut_to`: the file was cut, and flushed
abbrev pub CutsDisk : {T : Type 0} → Disk → ℕ → Result T StoreFault → Disk → Type 0
CutsDisk old len result new = BecomesInPart (λ b c. c ≡ flushed (cut b len)) (λ b c. MayBeFlushed (cut b len) c)
    old result new

-- `replace`: a file of these bytes, flushed, was put under the name, and then the name was flushed
abbrev pub ReplacesDisk : {T : Type 0} → Disk → List ℕ → Result T StoreFault → Disk → Type 0
ReplacesDisk old bytes (Ok done) new = new ≡ all_durable (Some bytes)
ReplacesDisk old bytes (Err fault) new = (new ≡ old)
    ⊎ ((new ≡ record { now = Some (secured bytes); older = old.now ∷ old.older }) ⊎ (new ≡ all_durable (Some bytes)))

-- ---- what a crash leaves after these, as laws

-- a flush leaves no more than before; and if none of the file was refused, all that calls see is durable after Ok
pub record DurableFlush {T : Type 0} (old : Disk) (result : Result T StoreFault) (new : Disk) : Type 0 where
  pub no_more : LeavesNoMore (MayLeave old) (MayLeave new)
  pub durable : Trusted old.now → OnOk result (IsDurable new)

-- `append`: whatever it answers, a crash leaves what it could have left before, or more bytes behind; of a durable file
-- the old bytes and a part of the new ones, and after Ok all
pub record DurableAppend {T : Type 0} (old : Disk) (bytes : List ℕ) (result : Result T StoreFault) (new : Disk)
    : Type 0 where
  pub longer : LeavesLonger (MayLeave old) (MayLeave new)
  pub leaves : IsDurable old → LeavesPart (seen_on old) bytes (MayLeave new)
  pub durable : OnOk result (IsDurable old → IsDurable new)

-- `cut_to`: what could have been left before, or the first bytes, perhaps with more behind, but none behind those of a
-- durable file; after Ok only these
pub record DurableCutTo {T : Type 0} (old : Disk) (len : ℕ) (result : Result T StoreFault) (new : Disk) : Type 0 where
  pub front : LeavesFront (seen_on old) len (MayLeave old) (MayLeave new)
  pub leaves : IsDurable old → LeavesCut (seen_on old) len (MayLeave old) (MayLeave new)
  pub durable : OnOk result (IsDurable old → IsDurable new)

-- `replace`: what could have been left before, a file or none, or the new bytes; after Ok only these
pub record DurableReplace {T : Type 0} (old : Disk) (bytes : List ℕ) (result : Result T StoreFault) (new : Disk)
    : Type 0 where
  pub leaves : LeavesEither (MayLeave old) bytes (MayLeave new)
  pub durable : OnOk result (IsDurable new)

abbrev pub DurableFlushes : Type 0
DurableFlushes = (old new : Disk) (result : Result (Unit {0}) StoreFault) → FlushesDisk old result new
    → DurableFlush old result new

abbrev pub DurableAppends : Type 0
DurableAppends = (old new : Disk) (bytes : List ℕ) (result : Result (Unit {0}) StoreFault)
    → AppendsDisk old bytes result new → DurableAppend old bytes result new

abbrev pub DurableCuts : Type 0
DurableCuts = (old new : Disk) (len : ℕ) (result : Result (Unit {0}) StoreFault) → CutsDisk old len result new
    → DurableCutTo old len result new

abbrev pub DurableReplaces : Type 0
DurableReplaces = (old new : Disk) (bytes : List ℕ) (result : Result (Unit {0}) StoreFault)
    → ReplacesDisk old bytes result new → DurableReplace old bytes result new
