-- The numbers 1 to n, each once and in any order, and their places in a list.
use Rattle.std.specs.Prelude.{◌≡◌, ℕ, ◌<◌, ◌≤◌, ◌+◌, ◌-◌, List, Option, Some, None, length, slice_index, All}
use Rattle.std.specs.Prelude.{slice_index_or, Contains}
use Rattle.mail_terms.specs.Distinct.{AreDistinct}

-- the list holds each number of 1 to n once, and no other number
pub record IsNumbering (n : ℕ) (numbers : List ℕ) : Type 0 where
  pub complete : (number : ℕ) → 1 ≤ number → number ≤ n → Contains numbers number
  pub distinct : AreDistinct numbers
  pub within : All (λ number. (1 ≤ number) × (number ≤ n)) numbers

-- the table has a slot for each number of 1 to n; the slot holds that number's place among the first i of the
-- list, if it is there
pub record HasPlaces (n : ℕ) (numbers : List ℕ) (i : ℕ) (slots : List (Option ℕ)) : Type 0 where
  pub room : length slots ≡ n
  pub within : (place : ℕ) → place < i → (1 ≤ slice_index numbers place) × (slice_index numbers place ≤ n)
  pub found : (place : ℕ) → place < i → slice_index_or slots (slice_index numbers place - 1) None ≡ Some place
  pub back : (slot place : ℕ) → slice_index_or slots slot None ≡ Some place
      → (place < i) × (slice_index numbers place ≡ slot + 1)

-- the places of 1 to n in the list, in this order
pub record IsOrderOf (n : ℕ) (numbers places : List ℕ) : Type 0 where
  pub count : length places ≡ n
  pub within : (k : ℕ) → k < n → slice_index places k < length numbers
  pub found : (place : ℕ) → place < length numbers → slice_index places (slice_index numbers place - 1) ≡ place
