-- Lists without repetition.
use Rattle.std.specs.Prelude.{◌≢◌, List, AllPairs}

-- no two elements are equal
abbrev pub AreDistinct : {A : Type 0} → List A → Type 0
AreDistinct xs = AllPairs (λ a b. a ≢ b) xs
