-- What becomes of the lock that keeps two runs of an account apart.
use Rattle.std.specs.{
  Prelude.{◌≡◌, ◌⊎◌, ℕ, Bool, true, false, List, Option, Result, Ok, Err, IfSome},
  String.string_bytes,
  declared.{
    fs.{File.File, attrs.Metadata.Metadata, locks.TryLockError.TheVariants.{Error as Fault, WouldBlock}},
    time.SystemTime.SystemTime,
  },
}
use Rattle.system_calls.specs.{Denials.IsAbout, declared.refusal.Denial.{Denial}}
use Rattle.getmail_setup.specs.{
  Clock.second_of,
  Failures.IsToldUnlocked,
  LockPlace.Hinders,
  Output.Puts,
  declared.errors.Errors.Errors,
  declared.{
    lock.Lock.{Lock, TheVariants.{Held, Elsewhere, Without}},
    lock_calls.LockCalls.{Ghosts as CallsGhosts},
  },
  declared.setup.Setup.Setup,
}

-- a file was marked with the time, as far as that is known
abbrev pub MarksTime : {L : Type 0} → CallsGhosts L → L → File → Type 0
MarksTime ghosts calls file = (now : Option SystemTime) × ghosts.showed calls now × IfSome now (ghosts.marks calls file)

-- the second at which a file was marked, as it was told; 0 if it wasn't
abbrev pub IsSince : {L : Type 0} → CallsGhosts L → L → File → ℕ → Type 0
IsSince ghosts calls file since =
    (time : Option SystemTime) × ghosts.dated calls file time × (since ≡ second_of time)

-- the lock of an open file was asked for: it is held, and the file marked, only if that was granted, and another
-- process has it only if it would have to be waited for
abbrev pub LocksOpened : {L : Type 0} → CallsGhosts L → L → File → Result Lock Denial → Type 0
LocksOpened ghosts calls file (Ok (Held held)) =
    (held ≡ file) × (done : Unit {0}) × ghosts.asked calls file (Ok done) × MarksTime ghosts calls file
LocksOpened ghosts calls file (Ok (Elsewhere since)) =
    ghosts.asked calls file (Err WouldBlock) × IsSince ghosts calls file since
LocksOpened ghosts calls file (Ok Without) = ⊥
LocksOpened ghosts calls file (Err denial) = ghosts.asked calls file (Err (Fault denial.error))

-- the lock of the file at a path was asked for, unless what was found there, or a refusal to open it, was in the way
abbrev pub LocksAt : {L : Type 0} → CallsGhosts L → L → List ℕ → Result Lock Denial → Type 0
LocksAt ghosts calls path (Ok lock) =
    (file : File) × ghosts.opened calls path (Ok file) × LocksOpened ghosts calls file (Ok lock)
LocksAt ghosts calls path (Err denial) = IsAbout path denial
    × (((found : Result Metadata Denial) × ghosts.told calls path found × Hinders path found denial)
    ⊎ (ghosts.opened calls path (Err denial.error)
    ⊎ ((file : File) × ghosts.opened calls path (Ok file) × LocksOpened ghosts calls file (Err denial))))

-- a run goes on unless another one has the lock
abbrev pub goes_on : Lock → Bool
goes_on (Elsewhere since) = false
goes_on lock = true

-- a run that gets no lock does without, and tells why, if reasons are asked for; else nothing is told
abbrev pub DoesWith : {E : Type 0} → (E → Option (List ℕ)) → Setup → Result Lock Denial → Lock → Errors E → Errors E
    → Type 0
DoesWith contents setup (Ok answer) lock old new = (lock ≡ answer) × (new ≡ old)
DoesWith contents setup (Err denial) lock old new = (lock ≡ Without)
    × (text : List ℕ) × IsToldUnlocked old.says_why setup.settings denial text × Puts contents old.err text new.err

-- the lock at the path of a run's setup was asked for, and this came of it
abbrev pub TakesLock : {L E : Type 0} → CallsGhosts L → L → (E → Option (List ℕ)) → Setup → Lock → Errors E → Errors E
    → Type 0
TakesLock ghosts calls contents setup lock old new = (answer : Result Lock Denial)
    × LocksAt ghosts calls (string_bytes setup.paths.lock) answer × DoesWith contents setup answer lock old new
