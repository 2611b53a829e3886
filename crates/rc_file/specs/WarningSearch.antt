-- The program's warnings as values, and how warnings are found.
use Rattle.std.specs.{
  Prelude.{◌≡◌, ℕ, Bool, ◌&&◌, List, ◌∷◌, ◌++◌, bytes_eq, string_bytes},
  Borrow.Bor,
  List.list_any,
  declared.hash.{BuildHasherDefault.BuildHasherDefault, FoldHasher.FoldHasher},
  HashSet.{HashSet, contains},
}
use Rattle.rc_file.specs.{RcMeaning.{Warned, firsts}, declared.warning.Warning.Warning}

abbrev pub warning_of : Warning → Warned
warning_of warning = record {
  line = warning.line;
  section = string_bytes warning.section;
  key = string_bytes warning.key;
}

-- two names of rows, each a section and a key, are the same
abbrev pub Name : Type 0
Name = Bor (List ℕ) × Bor (List ℕ)

abbrev pub name_eq : Name → Name → Bool
name_eq a b = bytes_eq a.0.now b.0.now && bytes_eq a.1.now b.1.now

-- what was found so far, followed by what the rest gives, is all; the set has the names of the rows that were met
pub record IsFinding (all rest found : List Warned) (told : HashSet Name (BuildHasherDefault FoldHasher)) : Type 0 where
  pub met : List Warned
  pub whole : all ≡ found ++ firsts met rest
  pub names : (name : Name)
      → contains name_eq told name
      ≡ list_any (λ earlier. bytes_eq earlier.section name.0.now && bytes_eq earlier.key name.1.now) met

-- a row was met, and is no longer one of the rest
abbrev pub TellsWarning : Warned → List Warned → HashSet Name (BuildHasherDefault FoldHasher)
    → List Warned → HashSet Name (BuildHasherDefault FoldHasher) → Type 0
TellsWarning row found old found' new = (all rest : List Warned) → IsFinding all (row ∷ rest) found old
    → IsFinding all rest found' new
