-- Which paths the superuser goes along.
use Rattle.std.specs.{
  Prelude.{◌≡◌, ◌≢◌, ◌⊎◌, ◌≤◌, ℕ, Bool, true, false, List, [], ◌∷◌, ◌++◌, Option, None, Some, codes, pos},
  Prelude.{if◌then◌else◌, slice_get, string_bytes},
  List.{All, AllWithin},
  IoError.{error_kind, raw_os_error},
  declared.io.{Error.Error, ErrorKind.TheVariants.NotFound},
}
use Rattle.file_reading.specs.declared.ReadFile.{Ghosts as ReadGhosts}
use Rattle.safe_path.specs.{
  Rule.{flaw_in, has_links_mode},
  Users.IsWatched,
  Way.{Goes, Passed, Spot, SplitsName, joined_path},
  declared.{
    looks.Looks.Ghosts,
    rule.{Found.Found, Flaw.{Flaw, TheVariants.Unseen}, Kind.{Kind, TheVariants.Folder}},
    rule.{Named.Named, Role.{Role, TheVariants.{Above, Last, Link}}},
    refused.{UnsafePath.UnsafePath, PathRefused.{PathRefused, TheVariants.{NoMemory, Unsafe}}},
  },
}

-- Linux follows so many links
abbrev pub most_links : ℕ
most_links = 40

-- the error of a path with more of them
abbrev pub IsLoopError : Error → Type 0
IsLoopError error = raw_os_error error ≡ Some (pos 40)

-- for what a look-up goes through a thing: a link, what is named if no name is behind its own, or else a folder above
abbrev pub role_of : Kind → Option (List ℕ) → Found → Role
role_of kind (Some rest) found = if has_links_mode found.mode then Link else Above
role_of kind None found = if has_links_mode found.mode then Link else Last kind

-- the rule on a thing that isn't what is named
abbrev pub KeepsRule : Passed → Type 0
KeepsRule thing = flaw_in (role_of Folder (Some []) thing.found) thing.found ≡ None

-- a folder's path, as a message has it
abbrev pub shown_folder : List ℕ → List ℕ
shown_folder [] = codes "/"
shown_folder (octet ∷ octets) = octet ∷ octets

-- from a spot on nothing is left but what is named: it is there and keeps the rule, or nothing is there, and then the
-- nearest folder that is there keeps the rule on a folder that is named
pub data ArrivesAt {L : Type 0} (told : Ghosts L) (looks : L) (kind : Kind) (spot : Spot) : Type 0 where
  there : (name : List ℕ) (found : Found)
      → SplitsName spot.names name None → told.showed looks (joined_path spot.folder name) found
      → has_links_mode found.mode ≡ false → flaw_in (Last kind) found ≡ None → ArrivesAt told looks kind spot
  missing : (name : List ℕ) (rest : Option (List ℕ)) (error : Error)
      → SplitsName spot.names name rest → told.hid looks (joined_path spot.folder name) error
      → error_kind error ≡ NotFound → flaw_in (Last Folder) spot.held ≡ None → ArrivesAt told looks kind spot

-- the root itself breaks the rule or can't be looked at
abbrev pub IsRootsFlaw : {L : Type 0} → Ghosts L → L → Flaw → Type 0
IsRootsFlaw told looks flaw = ((error : Error) × told.hid looks (codes "/") error × (flaw ≡ Unseen error))
    ⊎ ((root : Found) × told.showed looks (codes "/") root × (flaw_in Above root ≡ Some flaw))

-- what comes next at a spot breaks the rule, or can't be looked at: this thing, for this reason
pub data BreaksRule {L : Type 0} (told : Ghosts L) (looks : L) (kind : Kind) (spot : Spot)
    : List ℕ → Flaw → Type 0 where
  next : (name : List ℕ) (rest : Option (List ℕ)) (found : Found) (flaw : Flaw)
      → SplitsName spot.names name rest → told.showed looks (joined_path spot.folder name) found
      → flaw_in (role_of kind rest found) found ≡ Some flaw
      → BreaksRule told looks kind spot (joined_path spot.folder name) flaw
  nearest : (name : List ℕ) (rest : Option (List ℕ)) (error : Error) (flaw : Flaw)
      → SplitsName spot.names name rest → told.hid looks (joined_path spot.folder name) error
      → error_kind error ≡ NotFound → flaw_in (Last Folder) spot.held ≡ Some flaw
      → BreaksRule told looks kind spot (shown_folder spot.folder) flaw
  unseen : (name : List ℕ) (rest : Option (List ℕ)) (error : Error)
      → SplitsName spot.names name rest → told.hid looks (joined_path spot.folder name) error
      → error_kind error ≢ NotFound → BreaksRule told looks kind spot (joined_path spot.folder name) (Unseen error)
  unread : (name : List ℕ) (rest : Option (List ℕ)) (found : Found) (error : Error)
      → SplitsName spot.names name rest → told.showed looks (joined_path spot.folder name) found
      → has_links_mode found.mode ≡ true → told.barred looks (joined_path spot.folder name) error
      → BreaksRule told looks kind spot (joined_path spot.folder name) (Unseen error)
  at_root : (name target : List ℕ) (rest : Option (List ℕ)) (found : Found) (flaw : Flaw)
      → SplitsName spot.names name rest → told.showed looks (joined_path spot.folder name) found
      → has_links_mode found.mode ≡ true → told.led looks (joined_path spot.folder name) (47 ∷ target)
      → IsRootsFlaw told looks flaw → BreaksRule told looks kind spot (codes "/") flaw

-- the names of a path from the root: a relative path begins in the working folder
abbrev pub AreNames : {L : Type 0} → Ghosts L → L → List ℕ → List ℕ → Type 0
AreNames told looks path names = (path ≡ 47 ∷ names)
    ⊎ (((from_root : List ℕ) → path ≢ 47 ∷ from_root)
    × (front : List ℕ) × told.works_in looks (47 ∷ front) × (names ≡ front ++ (47 ∷ path)))

-- a look-up of the names from the root came to a spot by so many links, and what it went through keeps the rule
pub record GetsTo {L : Type 0} (told : Ghosts L) (looks : L) (names : List ℕ) (links : ℕ) (spot : Spot) : Type 0 where
  pub passed : List Passed
  pub goes : Goes told looks names links passed spot
  pub kept : All KeepsRule passed

-- a link is what comes next at a spot
pub record IsLinkAt {L : Type 0} (told : Ghosts L) (looks : L) (spot : Spot) (path : List ℕ) : Type 0 where
  pub name : List ℕ
  pub rest : Option (List ℕ)
  pub takes : SplitsName spot.names name rest
  pub is_path : path ≡ joined_path spot.folder name
  pub found : Found
  pub showed : told.showed looks path found
  pub is_link : has_links_mode found.mode ≡ true

-- it is one more than Linux follows
abbrev pub IsLoop : {L : Type 0} → Ghosts L → L → ℕ → Spot → List ℕ → Flaw → Type 0
IsLoop told looks links spot path flaw = (links ≡ most_links) × IsLinkAt told looks spot path
    × (error : Error) × IsLoopError error × (flaw ≡ Unseen error)

-- by looks at all that a look-up of a path goes through, each thing keeps the rule
pub record IsSafePath {L : Type 0} (told : Ghosts L) (looks : L) (named : Named) : Type 0 where
  pub names : List ℕ
  pub are_names : AreNames told looks named.path.now names
  pub links : ℕ
  pub few : links ≤ most_links
  pub spot : Spot
  pub reaches : GetsTo told looks names links spot
  pub ends : ArrivesAt told looks named.kind spot

-- a thing that a look-up of a path goes through breaks the rule or can't be looked at, and all before it keep the rule
pub record IsUnsafe {L : Type 0} (told : Ghosts L) (looks : L) (named : Named) (path : List ℕ) (flaw : Flaw)
    : Type 0 where
  pub names : List ℕ
  pub are_names : AreNames told looks named.path.now names
  pub links : ℕ
  pub spot : Spot
  pub reaches : GetsTo told looks names links spot
  pub breaks : BreaksRule told looks named.kind spot path flaw ⊎ IsLoop told looks links spot path flaw

-- this is why a path is refused: by a look-up, or since it has no beginning that can be looked at
abbrev pub IsRefused : {L : Type 0} → Ghosts L → L → Named → List ℕ → Flaw → Type 0
IsRefused told looks named path flaw = IsUnsafe told looks named path flaw
    ⊎ ((path ≡ codes "/") × IsRootsFlaw told looks flaw)
    ⊎ ((path ≡ codes ".") × ((from_root : List ℕ) → named.path.now ≢ 47 ∷ from_root)
    × (error : Error) × told.is_lost looks error × (flaw ≡ Unseen error))

-- what is said of a path that is refused; nothing if memory ran out
abbrev pub WhereUnsafe : (List ℕ → Flaw → Type 0) → PathRefused → Type 0
WhereUnsafe P (Unsafe why) = P (string_bytes why.path) why.flaw
WhereUnsafe P NoMemory = Unit {0}

-- the answer to the check of some paths: all are safe, or nothing is looked at
abbrev pub AreAllSafe : {L : Type 0} → Ghosts L → ReadGhosts L → L → List Named → Type 0
AreAllSafe told read looks things = IsWatched told read looks false
    ⊎ (IsWatched told read looks true × All (IsSafePath told looks) things)

-- or one is refused, behind others that are safe
pub record IsFirstRefused {L : Type 0} (told : Ghosts L) (read : ReadGhosts L) (looks : L) (things : List Named)
    (path : List ℕ) (flaw : Flaw) : Type 0 where
  pub watched : IsWatched told read looks true
  pub place : ℕ
  pub named : Named
  pub is_there : slice_get things place ≡ Some named
  pub before : AllWithin (IsSafePath told looks) things 0 place
  pub refused : IsRefused told looks named path flaw
