-- What settling does to a file, for either outcome.
use Rattle.std.specs.Prelude.{◌≡◌, ◌⊎◌, ℕ, Bool, List, take, Option, Some, Result, Ok, Err, OnOk}
use Rattle.mail_store.specs.{
  declared.{fault.StoreFault.{StoreFault, TheVariants.{Refused, NotMbox}}, mboxrd.settling.Behind.Behind},
  DiskCalls.{CutsDisk, FlushesTwice},
  Durable.{Disk, IsDurable, MayLeave, Trusted, seen_on},
  Power.{LeavesCut, LeavesFront},
  Settling.{TellsBehind, settled_file, stands_whole},
}

-- `look_behind`: what stands at a place was told, and the file was flushed
abbrev pub LooksBehind : ℕ → ℕ → Option ℕ → Disk → Result Behind StoreFault → Disk → Type 0
LooksBehind start len listed old result new = TellsBehind start len listed (seen_on old) result
    × FlushesTwice old result new

-- the file was flushed, and then cut to its first bytes
abbrev pub CutsBack : {T : Type 0} → Disk → ℕ → Result T StoreFault → Disk → Type 0
CutsBack old start result new =
    (mid : Disk) × FlushesTwice {T = Unit {0}} old (Ok tt) mid × CutsDisk mid start result new

-- a file of these bytes was flushed, and cut back if it has to be
abbrev pub SettlesTo : {T : Type 0} → Disk → ℕ → List ℕ → List ℕ → Result T StoreFault → Disk → Type 0
SettlesTo old start was settled result new = ((settled ≡ was) × FlushesTwice old result new)
    ⊎ ((settled ≡ take start was) × CutsBack old start result new)

-- `settle_file`: the file is settled, and the answer is whether the entry is there whole; there is no file; a call was
-- refused; or memory ran out
abbrev pub SettlesFile : ℕ → ℕ → Option ℕ → Disk → Result Bool StoreFault → Disk → Type 0
SettlesFile start len listed old (Ok whole) new = (was : List ℕ) × (seen_on old ≡ Some was)
    × (whole ≡ stands_whole start len listed was)
    × SettlesTo {T = Bool} old start was (settled_file start len listed was) (Ok whole) new
SettlesFile start len listed old (Err Refused) new = FlushesTwice {T = Bool} old (Err Refused) new
    ⊎ ((was : List ℕ) × (seen_on old ≡ Some was) × (settled_file start len listed was ≡ take start was)
    × CutsBack {T = Unit {0}} old start (Err Refused) new)
SettlesFile start len listed old (Err NotMbox) new = ⊥
SettlesFile start len listed old (Err fault) new = LooksBehind start len listed old (Err fault) new

-- what calls see then: the file, settled or as it was
abbrev pub SeesSettled : ℕ → ℕ → Option ℕ → Option (List ℕ) → Result Bool StoreFault → Option (List ℕ) → Type 0
SeesSettled start len listed old (Ok whole) new = (was : List ℕ) × (old ≡ Some was)
    × (whole ≡ stands_whole start len listed was) × (new ≡ Some (settled_file start len listed was))
SeesSettled start len listed old (Err Refused) new = (new ≡ old)
    ⊎ ((was : List ℕ) × (old ≡ Some was) × (new ≡ Some (settled_file start len listed was)))
SeesSettled start len listed old (Err NotMbox) new = ⊥
SeesSettled start len listed old (Err fault) new = TellsBehind start len listed old (Err fault) × (new ≡ old)

-- a crash leaves what it could have left before, or the file cut back, with nothing behind unless a flush of it was
-- refused before; after Ok all that calls see is durable then
pub record DurableSettle (start len : ℕ) (listed : Option ℕ) (old : Disk) (result : Result Bool StoreFault) (new : Disk)
    : Type 0 where
  pub sees : SeesSettled start len listed (seen_on old) result (seen_on new)
  pub front : LeavesFront (seen_on old) start (MayLeave old) (MayLeave new)
  pub durable : Trusted old.now → OnOk result (IsDurable new)
  pub leaves : Trusted old.now → LeavesCut (seen_on old) start (MayLeave old) (MayLeave new)

abbrev pub SettledFilesAreDurable : Type 0
SettledFilesAreDurable = (start len : ℕ) (listed : Option ℕ) (old new : Disk) (result : Result Bool StoreFault)
    → SettlesFile start len listed old result new → DurableSettle start len listed old result new
