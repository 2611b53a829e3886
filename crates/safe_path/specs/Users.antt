-- Whose rights a process has.
use Rattle.std.specs.{
  Prelude.{◌≡◌, ◌⊎◌, ◌==◌, ◌&&◌, ◌||◌, ℕ, Bool, true, false, not, List, bytes_eq, codes, drop, length, take},
  List.prefix_len,
}
use Rattle.safe_path.specs.declared.looks.Looks.{Ghosts}
use Rattle.file_reading.specs.declared.ReadFile.{Ghosts as ReadGhosts}

-- a space or the end of a line
abbrev pub is_gap : ℕ → Bool
is_gap octet = octet == 32 || octet == 10

abbrev pub is_solid : ℕ → Bool
is_solid octet = not (is_gap octet)

abbrev pub past_gaps : List ℕ → List ℕ
past_gaps octets = drop (prefix_len is_gap octets) octets

-- the first word, and what is behind it
abbrev pub word : List ℕ → List ℕ
word octets = take (prefix_len is_solid (past_gaps octets)) (past_gaps octets)

abbrev pub behind : List ℕ → List ℕ
behind octets = drop (prefix_len is_solid (past_gaps octets)) (past_gaps octets)

-- a map of users (user_namespaces(7)) has one line, of one user who has the superuser's number inside and another one
-- outside
abbrev pub is_one_user : List ℕ → Bool
is_one_user octets =
    bytes_eq (word octets) (codes "0") && (not (bytes_eq (word (behind octets)) (codes "0"))
    && (bytes_eq (word (behind (behind octets))) (codes "1")
    && (length (word (behind (behind (behind octets)))) == 0)))

-- where the map of this process's users is, and how much of it is read
abbrev pub map_path : List ℕ
map_path = codes "/proc/self/uid_map"

abbrev pub map_room : ℕ
map_room = 4096

-- paths are looked at: the process has the superuser's rights, and its users aren't one alone, as far as can be read
abbrev pub IsWatched : {L : Type 0} → Ghosts L → ReadGhosts L → L → Bool → Type 0
IsWatched told read looks true = told.has_rights looks true
    × (((octets : List ℕ) × read.gave looks map_path map_room octets × (is_one_user octets ≡ false))
    ⊎ read.refused looks map_path)
IsWatched told read looks false = told.has_rights looks false
    ⊎ ((octets : List ℕ) × read.gave looks map_path map_room octets × (is_one_user octets ≡ true))
