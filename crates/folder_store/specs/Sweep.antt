-- Which files of a folder are removed as left behind by killed runs.
use Rattle.std.specs.{
  Prelude.{◌≡◌, ◌≤◌, ◌+◌, ℕ, true, List, Result, Ok, IfOk, MatchOption},
  List.All,
  Time.system_time_nanos,
  declared.time.SystemTime.{SystemTime},
}
use Rattle.system_calls.specs.declared.refusal.Denial.{Denial}
use Rattle.folder_store.specs.{declared.sweep.SweptFile.SweptFile, Marks.IsOurs}

-- a regular file to which nothing was written for an hour
abbrev pub IsLeftBehind : SweptFile → SystemTime → Type 0
IsLeftBehind file now = (file.is_regular ≡ true)
    × MatchOption file.modified ⊥ (λ modified. system_time_nanos modified + 3_600_000_000_000 ≤ system_time_nanos now)

-- a name may be removed: it begins so and is that of a file that a process made, which was found to be left behind
pub record MayBeSwept (front : List ℕ) (time : SystemTime → Type 0) (told : List ℕ → Result SweptFile Denial → Type 0)
    (name : List ℕ) : Type 0 where
  pub ours : IsOurs front name
  pub now : SystemTime
  pub is_now : time now
  pub file : SweptFile
  pub found : told name (Ok file)
  pub left : IsLeftBehind file now

-- a name was dealt with: if it is of those, it was looked at, and removed if what bears it was left behind
abbrev pub IsDealtWith : (front : List ℕ) → SystemTime → (told : List ℕ → Result SweptFile Denial → Type 0)
    → (removes : List ℕ → Type 0) → List ℕ → Type 0
IsDealtWith front now told removes name = IsOurs front name
    → (answer : Result SweptFile Denial) × told name answer × IfOk answer (λ file. IsLeftBehind file now → removes name)

-- all names were, at one time
abbrev pub IsSwept : (front : List ℕ) → (time : SystemTime → Type 0) → (listed : List (List ℕ) → Type 0)
    → (told : List ℕ → Result SweptFile Denial → Type 0) → (removes : List ℕ → Type 0) → Type 0
IsSwept front time listed told removes = (now : SystemTime) × time now × (names : List (List ℕ)) × listed names
    × All (IsDealtWith front now told removes) names
