-- What an answer tells of the password, and what is shown of it.
use Rattle.std.specs.{
  Prelude.{◌≡◌, ◌≤◌, ◌<◌, ◌⊎◌, ◌+◌, ◌-◌, ◌%◌, ◌==◌, ◌++◌, ◌&&◌, ◌||◌, ℕ, Bool, true, false, List, [], ◌∷◌, Option},
  Prelude.{None, Some, codes, drop, get_or, length, map, max, min, nat_lt, slice_index, take, if◌then◌else◌},
  List.{dedup, starts_with},
  Char.to_ascii_lowercase,
  Option.unwrap_or,
}
use Rattle.base64.specs.{Engines.standard_no_pad, GeneralPurpose.encode_of}
use Rattle.hex.specs.Hex.{encode_lower}
use Rattle.memchr.specs.Find.{OccursAt}
use Rattle.trace.specs.Command.{is_word}

abbrev pub lower : List ℕ → List ℕ
lower octets = map to_ascii_lowercase octets

-- ---- ways to write a password

-- the base64 of octets that follow others, with a last character that further octets could change left out
abbrev pub base64_after : List ℕ → List ℕ → List ℕ
base64_after before octets =
    let text = encode_of standard_no_pad (before ++ octets) in
    if length (before ++ octets) % 3 == 0 then text else take (length text - 1) text

-- the characters of a password's base64 that it alone determines, after none, one or two octets of a group of three
abbrev pub alone_first : List ℕ → List ℕ
alone_first password = base64_after [] password

abbrev pub alone_second : List ℕ → List ℕ
alone_second password = drop 2 (base64_after (0 ∷ []) password)

abbrev pub alone_third : List ℕ → List ℕ
alone_third password = drop 3 (base64_after (0 ∷ 0 ∷ []) password)

-- octets begin with a front, and what follows is so
abbrev pub HasFront : List ℕ → (List ℕ → Type 0) → List ℕ → Type 0
HasFront front IsRest octets = (rest : List ℕ) × IsRest rest × (octets ≡ front ++ rest)

abbrev pub percent_encoded : ℕ → List ℕ
percent_encoded octet = 37 ∷ encode_lower (octet ∷ [])

-- each octet of a password is written as it is, in lower case, or percent-encoded
abbrev pub IsMix : List ℕ → List ℕ → Type 0
IsMix [] written = written ≡ []
IsMix (octet ∷ password) written =
    HasFront (to_ascii_lowercase octet ∷ []) (IsMix password) written
    ⊎ HasFront (percent_encoded octet) (IsMix password) written

-- in lower case, this is the password, its base64 at one of three places, its hexadecimal, or such a mix
abbrev pub Writes : List ℕ → List ℕ → Type 0
Writes password written =
    IsMix password written ⊎ ((written ≡ encode_lower password) ⊎ ((written ≡ lower (alone_first password))
    ⊎ ((written ≡ lower (alone_second password)) ⊎ (written ≡ lower (alone_third password)))))

-- how many octets a text begins with that are so, the most there are; none if it begins with no such ones
abbrev pub IsLongest : (List ℕ → Type 0) → List ℕ → Option ℕ → Type 0
IsLongest IsSo text None = (size : ℕ) → size ≤ length text → IsSo (take size text) → ⊥
IsLongest IsSo text (Some most) = (most ≤ length text) × IsSo (take most text)
    × ((size : ℕ) → size ≤ length text → IsSo (take size text) → size ≤ most)

-- of two numbers the greater one, if there are any
abbrev pub longer : Option ℕ → Option ℕ → Option ℕ
longer None other = other
longer (Some a) None = Some a
longer (Some a) (Some b) = Some (max a b)

-- an octet of an answer is one of those that write the password
pub record IsCovered (answer password : List ℕ) (place : ℕ) : Type 0 where
  pub start : ℕ
  pub size : ℕ
  pub within : start + size ≤ length answer
  pub writes : Writes password (take size (drop start (lower answer)))
  pub from : start ≤ place
  pub before : place < start + size

-- ---- what an answer to USER or PASS tells

abbrev pub Occurs : List ℕ → List ℕ → Type 0
Occurs answer octets = (k : ℕ) × OccursAt answer octets k

-- in base64, after any number of other octets: of one octet alone no two characters are known
abbrev pub OccursInBase64 : List ℕ → List ℕ → Type 0
OccursInBase64 answer octets =
    (1 < length octets) × (Occurs answer (alone_first octets) ⊎ Occurs answer (alone_second octets)
    ⊎ Occurs answer (alone_third octets))

-- how many octets in a row tell a password
abbrev pub row_length : List ℕ → ℕ
row_length password = min 4 (length password)

abbrev pub password_row : List ℕ → ℕ → List ℕ
password_row password start = take (row_length password) (drop start password)

-- the row from this place on occurs in upper or lower case, or in base64
abbrev pub TellsRow : List ℕ → List ℕ → ℕ → Type 0
TellsRow answer password start =
    Occurs (lower answer) (password_row (lower password) start)
    ⊎ OccursInBase64 answer (password_row password start)

abbrev pub TellsARow : List ℕ → List ℕ → Type 0
TellsARow answer password = (start : ℕ) × (start + row_length password ≤ length password)
    × TellsRow answer password start

-- a command whose answer may repeat a part of what was typed
abbrev pub is_login : List ℕ → Bool
is_login command = is_word command (codes "USER") || is_word command (codes "PASS")

-- ---- what is shown

abbrev pub begins : List ℕ → List ℕ → Bool
begins answer front = starts_with (λ a b. a == b) answer front

-- an answer's status, with its response code if that is a known one (RFC 2449, RFC 3206, RFC 6856)
abbrev pub hidden_answer : List ℕ → List ℕ
hidden_answer answer =
    if begins answer (codes "-ERR [AUTH]") then codes "-ERR [AUTH]"
    else if begins answer (codes "-ERR [IN-USE]") then codes "-ERR [IN-USE]"
    else if begins answer (codes "-ERR [LOGIN-DELAY]") then codes "-ERR [LOGIN-DELAY]"
    else if begins answer (codes "-ERR [SYS/PERM]") then codes "-ERR [SYS/PERM]"
    else if begins answer (codes "-ERR [SYS/TEMP]") then codes "-ERR [SYS/TEMP]"
    else if begins answer (codes "-ERR [UTF8]") then codes "-ERR [UTF8]"
    else if begins answer (codes "-ERR") then codes "-ERR"
    else if begins answer (codes "+OK") then codes "+OK"
    else codes "*"

-- an octet that is shown, or none
abbrev pub is_hidden : Option ℕ → Bool
is_hidden None = true
is_hidden (Some octet) = false

-- of hidden octets that follow one another only the first is left
abbrev pub runs : List (Option ℕ) → List (Option ℕ)
runs parts = dedup (λ a b. is_hidden a && is_hidden b) parts

-- what is shown of octets: a '*' for hidden ones
abbrev pub stars_of : List (Option ℕ) → List ℕ
stars_of parts = map (λ part. unwrap_or part 42) (runs parts)

-- of the first octets of an answer those are hidden that write the password
pub record AreMarked (answer password : List ℕ) (count : ℕ) (parts : List (Option ℕ)) : Type 0 where
  pub each : length parts ≡ count
  pub hidden : (place : ℕ) → place < count → IsCovered answer password place → get_or parts place None ≡ None
  pub kept : (place : ℕ) → place < count → (IsCovered answer password place → ⊥)
      → get_or parts place None ≡ Some (slice_index answer place)

-- an answer, without the octets that write the password
pub record Masks (password answer shown : List ℕ) : Type 0 where
  pub parts : List (Option ℕ)
  pub marked : AreMarked answer password (length answer) parts
  pub is : shown ≡ stars_of parts

-- a password is so short that each octet that is shown or not would tell of it
abbrev pub is_short : List ℕ → Bool
is_short password = nat_lt (length password) 4
