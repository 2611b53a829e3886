-- What is told of refused calls.
use Rattle.std.specs.{
  Prelude.{◌≡◌, ◌⊎◌, ℕ, List, IfSome, None, codes},
  Str.Pattern.{RFindsText, SplitsAroundMatch},
  String.string_bytes,
}
use Rattle.system_calls.specs.declared.refusal.Denial.{Denial}

-- a refusal is about this path, unless there was no memory for it
abbrev pub IsAbout : List ℕ → Denial → Type 0
IsAbout path denial = IfSome denial.path (λ own. string_bytes own ≡ path)

-- the system's words in the text of an error: what is before its number, if it has one
abbrev pub IsReason : List ℕ → List ℕ → Type 0
IsReason text reason =
    ((number : List ℕ) × SplitsAroundMatch (RFindsText (codes " (os error ")) text reason number)
    ⊎ (RFindsText (codes " (os error ") text None × (reason ≡ text))
