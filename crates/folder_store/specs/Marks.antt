-- Names that end in the mark of a process.
use Rattle.std.specs.{
  Prelude.{◌≡◌, ◌≢◌, ◌==◌, ◌&&◌, ◌<◌, ◌^◌, ℕ, Bool, true, List, ◌∷◌, ◌++◌, Option, MatchOption, codes, length},
  Borrow.Bor,
  List.{All, list_all},
  Str.Parse.{IsNumeral, digits_value},
}
use Rattle.mail_store.specs.FileName.{is_lower_hex_digit}

-- the id of a process, in decimal
abbrev pub IsProcessId : List ℕ → Type 0
IsProcessId text = IsNumeral 10 text × (digits_value 10 text < 2 ^ 32)

-- eight octets of random, in lower-case hexadecimal
abbrev pub is_random : List ℕ → Bool
is_random text = length text == 16 && list_all is_lower_hex_digit text

-- the name ends in a mark: `.P`, the id of a process, `R` and random
abbrev pub EndsInMark : List ℕ → Type 0
EndsInMark name = (front id random : List ℕ) × (name ≡ front ++ (codes ".P" ++ (id ++ (codes "R" ++ random))))
    × IsProcessId id × (is_random random ≡ true)

-- the name of a file that a process made, which begins so
abbrev pub IsOurs : (front name : List ℕ) → Type 0
IsOurs front name = ((rest : List ℕ) × (name ≡ front ++ rest)) × EndsInMark name

-- an octet isn't in a text
abbrev pub IsFreeOf : ℕ → List ℕ → Type 0
IsFreeOf octet text = All (λ other. other ≢ octet) text

-- what is after the last full stop of a name
abbrev pub IsLastPart : List ℕ → Option (Bor (List ℕ)) → Type 0
IsLastPart name part = MatchOption part (IsFreeOf 46 name)
    (λ found. IsFreeOf 46 found.now × ((front : List ℕ) × (name ≡ front ++ 46 ∷ found.now)))

-- what is after `P` in a mark, and before and after the first `R` there
abbrev pub AreMarkParts : List ℕ → Option (Bor (List ℕ) × Bor (List ℕ)) → Type 0
AreMarkParts mark parts = MatchOption parts ((id random : List ℕ) → mark ≢ 80 ∷ (id ++ 82 ∷ random))
    (λ found. IsFreeOf 82 found.0.now × (mark ≡ 80 ∷ (found.0.now ++ 82 ∷ found.1.now)))
