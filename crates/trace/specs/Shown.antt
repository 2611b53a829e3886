-- What is shown of an answer.
use Rattle.std.specs.Prelude.{◌≡◌, ◌⊎◌, ◌||◌, ℕ, Bool, true, false, List, Option, None, Some, codes}
use Rattle.trace.specs.{
  Masking.{Masks, TellsARow, hidden_answer, is_login, is_short},
  Command.is_word,
  declared.masking.Moment.{Moment},
}

-- nothing but the status is shown: the server may know a short password, or it tells a part of one that was typed
abbrev pub IsWithheld : Moment → List ℕ → List ℕ → Type 0
IsWithheld moment answer password =
    ((moment.has_sent ≡ true) × (is_short password ≡ true)) ⊎ ((moment.to_login ≡ true) × TellsARow answer password)

-- an answer as it is shown where this password is hidden; what writes a short one may be anything, and is shown until
-- the server has got it
pub record IsMasked (moment : Moment) (password answer shown : List ℕ) : Type 0 where
  pub withheld : IsWithheld moment answer password → shown ≡ hidden_answer answer
  pub short : (IsWithheld moment answer password → ⊥) → is_short password ≡ true → shown ≡ answer
  pub masked : (IsWithheld moment answer password → ⊥) → is_short password ≡ false → Masks password answer shown

-- where no password is known, each answer is shown
abbrev pub IsShown : Option (List ℕ) → Moment → List ℕ → List ℕ → Type 0
IsShown None moment answer shown = shown ≡ answer
IsShown (Some password) moment answer shown = IsMasked moment password answer shown

-- a moment after a command, which may send the password
abbrev pub ComesAfter : Moment → List ℕ → Moment → Type 0
ComesAfter old command new = (new.to_login ≡ is_login command)
    × (new.has_sent ≡ (old.has_sent || is_word command (codes "PASS")))
