-- The list of what getmail6 fetched, which a first run in its place would fetch again.
use Rattle.std.specs.{
  Prelude.{◌≡◌, ◌⊎◌, ◌-◌, ◌++◌, ◌&&◌, ◌||◌, ◌==◌, ℕ, Bool, true, false, List, ◌∷◌, codes, length, map, nat_eq, nat_lt},
  Prelude.{Option, None, Some, if◌then◌else◌, take},
  Char.is_ascii_digit,
  List.{AllWithin, dedup, ends_with, suffix_len},
  Str.Pattern.{RFindsChar, SplitsAroundMatch},
  String.string_bytes,
}
use Rattle.getmail_setup.specs.{Places.joined, declared.setup.Setup.Setup}

-- an octet that getmail6 leaves in no name of a file: one of / \ : ; < > |
abbrev pub is_mark : ℕ → Bool
is_mark octet = octet == 47 || octet == 92 || octet == 58 || octet == 59 || octet == 60 || octet == 62 || octet == 124

-- of such octets that follow one another the first alone
abbrev pub without_runs : List ℕ → List ℕ
without_runs text = dedup (λ a b. is_mark a && is_mark b) text

abbrev pub dash_for : ℕ → ℕ
dash_for octet = if is_mark octet then 45 else octet

-- a text as getmail6 has it in the name of a file: each run of such octets is one '-'
abbrev pub dashed : List ℕ → List ℕ
dashed text = map dash_for (without_runs text)

-- a host, a '-' and a port: digits at the end, after a '-' that isn't the first octet
abbrev pub is_address : List ℕ → Bool
is_address address =
    let front = take (length address - suffix_len is_ascii_digit address) address in
    nat_lt 0 (suffix_len is_ascii_digit address) && (nat_lt 1 (length front) && ends_with nat_eq front (codes "-"))

-- a name is that of a list for this user, with some host and port, since a tunnel changes both: getmail6's name of
-- oldmail-SERVER-PORT-USER, in which '-' keeps the parts apart
abbrev pub IsListOf : List ℕ → List ℕ → Type 0
IsListOf name username = (address : List ℕ) × (is_address address ≡ true)
    × (name ≡ codes "oldmail-" ++ (address ++ (45 ∷ dashed username)))

-- the path of a list for this user in a folder, of which it was said that it isn't empty
abbrev pub IsFullList : (List ℕ → Bool → Type 0) → List ℕ → List ℕ → List ℕ → Type 0
IsFullList said folder username path =
    (name : List ℕ) × IsListOf name username × (path ≡ joined folder name) × said path true

-- if a name is that of a list for this user, it was said that there is none, or an empty one
abbrev pub HasNone : (List ℕ → Bool → Type 0) → List ℕ → List ℕ → List ℕ → Type 0
HasNone said folder username name = IsListOf name username → said (joined folder name) false

-- the folder that holds what a path names: what is before its last '/', and the program's own folder if it has none
abbrev pub IsFolderOf : List ℕ → List ℕ → Type 0
IsFolderOf path folder =
    ((before : List ℕ) × (name : List ℕ) × SplitsAroundMatch (RFindsChar 47) path before name
    × (folder ≡ (if length before == 0 then codes "/" else before)))
    ⊎ (RFindsChar 47 path None × (folder ≡ codes "."))

-- of some names of a folder none is that of a full list for this user, or the list is at this path
abbrev pub TellsAmong : (List ℕ → Bool → Type 0) → List ℕ → List ℕ → List (List ℕ) → Option (List ℕ) → Type 0
TellsAmong said folder username names None = AllWithin (HasNone said folder username) names 0 (length names)
TellsAmong said folder username names (Some path) = IsFullList said folder username path

-- that is what the names of the folder tell that holds the record
abbrev pub TellsOfLists : (List ℕ → Bool → Type 0) → (List ℕ → List (List ℕ) → Type 0) → Setup → Option (List ℕ)
    → Type 0
TellsOfLists said gave setup found = (folder : List ℕ) × IsFolderOf (string_bytes setup.paths.record) folder
    × (names : List (List ℕ)) × gave folder names
    × TellsAmong said folder (string_bytes setup.settings.username) names found

-- the list that stops a run: none if all mail is wanted or there is a record, else one that is beside the record's path
abbrev pub IsOtherList : (List ℕ → Bool → Type 0) → (List ℕ → Bool → Type 0) → (List ℕ → List (List ℕ) → Type 0) → Setup
    → Option (List ℕ) → Type 0
IsOtherList said is_free gave setup found =
    (((setup.settings.read_all ≡ true) ⊎ is_free (string_bytes setup.paths.record) false) × (found ≡ None))
    ⊎ ((setup.settings.read_all ≡ false) × is_free (string_bytes setup.paths.record) true
    × TellsOfLists said gave setup found)
