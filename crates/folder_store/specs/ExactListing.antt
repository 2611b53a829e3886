-- What a listing of a folder is, in which others rename files meanwhile, by the calls that it makes.
use Rattle.std.specs.{
  Prelude.{◌≡◌, ◌≢◌, ◌⊎◌, ◌==◌, ◌+◌, ◌*◌, ◌-◌, ◌^◌, ◌<◌, ◌≤◌, ℕ, ℤ, zero, suc, pos, negsuc, max, Bool, true, false},
  Prelude.{List, [], ◌∷◌, ◌++◌, length, map, Option, Some, None, Result, Ok, Err, String, Vec},
  Prelude.{if◌then◌else◌, string_bytes},
  Duration.as_nanos,
  IoError.error_kind,
  List.{AllPass, filter, flat_map},
  declared.{io.ErrorKind.TheVariants.{Other, OutOfMemory}, time.Duration.Duration},
}
use Rattle.system_calls.specs.{Denials.IsAbout, declared.refusal.Denial.{Denial}}
use Rattle.folder_store.specs.{
  Wanted.{TellsNames, is_listed},
  declared.exact_listing.{ChangeTime.ChangeTime, Sighting.Sighting},
  declared.shared_calls.ListedNames.ListedNames,
  declared.wanted.Wanted.{Wanted},
}

-- ---- the calls

-- a call that a listing makes, and what it told: stat(2) the folder's time of change; the clock that never goes back
-- its time; the clock of dates the time since 1970, if it could be read; a sleep; open(2) of the folder, which is read
-- from its first name on; a read of the next names, of none at the end; and a call that was refused
pub data ListingCall : Type 0 where
  Stat : ChangeTime → ListingCall
  Clock : Duration → ListingCall
  Date : Option Duration → ListingCall
  Sleep : Duration → ListingCall
  Open : ListingCall
  Read : List ℕ → ListingCall
  Refused : Denial → ListingCall

-- a call by its answer
abbrev pub call_of : {T : Type 0} → (T → ListingCall) → Result T Denial → ListingCall
call_of told (Ok value) = told value
call_of told (Err d) = Refused d

-- these calls were made, one after the other
abbrev pub CallsWere : {L : Type 0} → (did : L → ListingCall → L → Type 0) → L → List ListingCall → L → Type 0
CallsWere did old [] new = old ≡ new
CallsWere {L = L} did old (call ∷ calls) new = (mid : L) × did old call mid × CallsWere did mid calls new

-- calls were made of which this holds
abbrev pub MakesCalls : {L : Type 0} → (did : L → ListingCall → L → Type 0) → L → L
    → (List ListingCall → Type 0) → Type 0
MakesCalls did old new Are = (calls : List ListingCall) × CallsWere did old calls new × Are calls

-- why calls come to nothing: the last one was refused, or memory ran out
abbrev pub WasDenied : Denial → List ListingCall → Type 0
WasDenied d calls = ((front : List ListingCall) × (calls ≡ front ++ Refused d ∷ []))
    ⊎ (error_kind d.error ≡ OutOfMemory)

-- what calls come to
abbrev pub ComesTo : {T : Type 0} → (T → List ListingCall → Type 0) → Result T Denial → List ListingCall → Type 0
ComesTo Is (Ok value) calls = Is value calls
ComesTo Is (Err d) calls = WasDenied d calls

-- ---- a folder that is left alone

-- a look at the folder
abbrev pub look_of : Sighting → List ListingCall
look_of seen = Stat seen.change ∷ Clock seen.at ∷ []

abbrev pub IsLook : Sighting → List ListingCall → Type 0
IsLook seen calls = calls ≡ look_of seen

-- for how many nanoseconds a folder must be at rest so that a later change gives it another time than this: longer than
-- the steps of the clock by which Linux stamps changes, or of a file system that keeps whole seconds
abbrev pub step_nanos : ℤ → ℕ
step_nanos (pos zero) = 1_020_000_000
step_nanos nanoseconds = 20_000_000

-- how long ago a time of change, in seconds and nanoseconds since 1970, was at such a time, in nanoseconds; zero if it
-- is later, or before 1970
abbrev pub age_at : ℕ → ℤ → ℕ → ℕ
age_at seconds (pos nanos) now = now - (seconds * 1_000_000_000 + nanos)
age_at seconds (negsuc nanos) now = 0

-- a time since 1970 that isn't known counts as 1970
abbrev pub nanos_since : Option Duration → ℕ
nanos_since None = 0
nanos_since (Some date) = as_nanos date

-- what is left of a step, in nanoseconds, where the time of change is this old, and was seen this long ago
abbrev pub left_of : (step age watched : ℕ) → ℕ
left_of step age watched = step - max age watched

abbrev pub left_at : Sighting → Option Duration → Duration → ℕ
left_at seen date now = left_of (step_nanos seen.change.nanoseconds)
    (age_at seen.change.seconds seen.change.nanoseconds (nanos_since date)) (as_nanos now - as_nanos seen.at)

abbrev pub slept : Duration → List ListingCall
slept left = if as_nanos left == 0 then [] else Sleep left ∷ []

-- a folder that was seen is left alone for what is left of a step
abbrev pub IsRest : Sighting → List ListingCall → Type 0
IsRest seen calls = (date : Option Duration) × (now left : Duration) × (as_nanos left ≡ left_at seen date now)
    × (calls ≡ Date date ∷ Clock now ∷ slept left)

-- ---- its names

-- between two reads the folder may be looked at
abbrev pub is_in_pass : ListingCall → Bool
is_in_pass (Stat change) = true
is_in_pass (Read octets) = true
is_in_pass call = false

abbrev pub octets_read : ListingCall → List (List ℕ)
octets_read (Read octets) = octets ∷ []
octets_read call = []

-- reads told these names, each one whole ones
abbrev pub TellEach : List (List ℕ) → List (List ℕ) → Type 0
TellEach [] names = names ≡ []
TellEach (octets ∷ more) names =
    (here rest : List (List ℕ)) × TellsNames octets here × TellEach more rest × (names ≡ here ++ rest)

-- these are the names that reads told, as far as they are wanted
abbrev pub AreFound : Wanted → List (List ℕ) → List (List ℕ) → Type 0
AreFound wanted reads names = (told : List (List ℕ)) → TellEach reads told → names ≡ filter (is_listed wanted) told

abbrev pub name_texts : {A B : Type 0} → Vec (String A) B → List (List ℕ)
name_texts names = map string_bytes names.items

-- reads of an open folder, to its end. They are given up, and nothing is found, only if the folder has another time of
-- change than the one that was seen, or if they never end
abbrev pub IsReading : Wanted → ChangeTime → Option (List (List ℕ)) → List ListingCall → Type 0
IsReading wanted seen (Some names) calls = (middle : List ListingCall) × (calls ≡ middle ++ Read [] ∷ [])
    × AllPass is_in_pass middle × AreFound wanted (flat_map octets_read middle) names
IsReading wanted seen None calls =
    ((front : List ListingCall) × (change : ChangeTime) × (change ≢ seen) × (calls ≡ front ++ Stat change ∷ []))
    ⊎ (2 ^ 64 - 2 ≤ length (flat_map octets_read calls))

-- a pass through the names of a folder, from the first on
abbrev pub IsPass : Wanted → ChangeTime → Option (List (List ℕ)) → List ListingCall → Type 0
IsPass wanted seen found calls = (reads : List ListingCall) × (calls ≡ Open ∷ reads) × IsReading wanted seen found reads

-- a folder that was seen is listed once: it is left alone, passed through, and looked at again. Its names are told if
-- the pass found them, and the time of change is still the one that was seen
pub record ListsOnce (wanted : Wanted) (seen : Sighting) (told : Option (List (List ℕ))) (again : Sighting)
    (calls : List ListingCall) : Type 0 where
  pub rest : List ListingCall
  pub rested : IsRest seen rest
  pub pass : List ListingCall
  pub found : Option (List (List ℕ))
  pub passed : IsPass wanted seen.change found pass
  pub whole : calls ≡ rest ++ (pass ++ look_of again)
  pub same : again.change ≡ seen.change → told ≡ found
  pub other : again.change ≢ seen.change → told ≡ None

-- ---- listings until one is exact

-- for how many nanoseconds a folder that changes all the time is listed again, and how many times
abbrev pub most_nanos : ℕ
most_nanos = 2_000_000_000

abbrev pub most_listings : ℕ
most_listings = 100

abbrev pub passed_since : Duration → Sighting → ℕ
passed_since start seen = as_nanos seen.at - as_nanos start

-- so many listings in turn told nothing, and the folder was seen last so; less than two seconds have passed
abbrev pub InVain : Wanted → (start : Duration) → (first : Sighting) → ℕ → List ListingCall → (last : Sighting) → Type 0
InVain wanted start first zero calls last = (calls ≡ []) × (last ≡ first)
InVain wanted start first (suc times) calls last = (before here : List ListingCall) × (mid : Sighting)
    × InVain wanted start first times before mid × ListsOnce wanted mid None last here
    × (passed_since start last < most_nanos) × (calls ≡ before ++ here)

-- calls that begin with a look at the folder and with listings in vain
pub record BeginsInVain (wanted : Wanted) (calls : List ListingCall) : Type 0 where
  pub start : Duration
  pub first : Sighting
  pub times : ℕ
  pub vain : List ListingCall
  pub last : Sighting
  pub listed : InVain wanted start first times vain last
  pub rest : List ListingCall
  pub whole : calls ≡ Clock start ∷ (look_of first ++ (vain ++ rest))

-- one more listing told the names, and the time of change that the folder had before and after it
abbrev pub IsExact : Wanted → ListedNames → List ListingCall → Type 0
IsExact wanted listed calls = (begun : BeginsInVain wanted calls) × (again : Sighting)
    × ListsOnce wanted begun.last (Some (name_texts listed.names)) again begun.rest × (listed.change ≡ again.change)

-- a folder changes all the time: a hundred listings told nothing, or two seconds have passed after one that did so
abbrev pub ChangesAlways : Wanted → List ListingCall → Type 0
ChangesAlways wanted calls = (begun : BeginsInVain wanted calls)
    × (((begun.times ≡ most_listings) × (begun.rest ≡ []))
    ⊎ ((again : Sighting) × ListsOnce wanted begun.last None again begun.rest
    × (most_nanos ≤ passed_since begun.start again)))

-- the names of a folder at one moment, or why there are none
abbrev pub ListsExactly : Wanted → (path : List ℕ) → Result ListedNames Denial → List ListingCall → Type 0
ListsExactly wanted path (Ok listed) calls = IsExact wanted listed calls
ListsExactly wanted path (Err d) calls = WasDenied d calls
    ⊎ ((error_kind d.error ≡ Other) × IsAbout path d × ChangesAlways wanted calls)
