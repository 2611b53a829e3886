-- What a server has got and hasn't used yet.
use Rattle.std.specs.Prelude.{ℕ, List}

-- the octets that wait, and how many more may be taken
pub record Waiting : Type 0 where
  pub octets : List ℕ
  pub left : ℕ
