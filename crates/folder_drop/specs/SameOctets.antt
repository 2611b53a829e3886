-- Two readers whose octets are known, compared.
use Rattle.std.specs.Prelude.{◌≡◌, ◌↔◌, ℕ, Bool, List, Option, Some, None, IsTrue}

-- the answer is whether both have the same octets left
abbrev pub TellsSame : Option (List ℕ) → Option (List ℕ) → Bool → Type 0
TellsSame one other answer = (xs ys : List ℕ) → one ≡ Some xs → other ≡ Some ys → IsTrue answer ↔ xs ≡ ys

-- this is known now, or the answer is that for what is left of both afterwards
abbrev pub TellsSameLater : Option (List ℕ) → Option (List ℕ) → Option Bool → Option (List ℕ) → Option (List ℕ) → Type 0
TellsSameLater one other (Some answer) later other_later = TellsSame one other answer
TellsSameLater one other None later other_later = (answer : Bool) → TellsSame later other_later answer
    → TellsSame one other answer
