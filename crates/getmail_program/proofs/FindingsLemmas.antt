-- A front of a text.
use Rattle.std.{
  proofs.{
    Common.{◌≡◌, ◌∙◌, ◌-◌, ◌≤◌, ℕ, List, ap, arith, inl, inr, refl, take},
    lemmas.Str.IsCharBoundary-start,
  },
  specs.{List.slice_range, Str.{IsCharBoundary, IsUtf8}},
}
use Rattle.getmail_program.specs.Findings.{IsTextFront}

pub front_some : (text : List ℕ) (n : ℕ) (front : List ℕ) → front ≡ slice_range text 0 n → IsTextFront text n front
front_some text n front is =
    let same : n - 0 ≡ n = omega arith in
    inl (is ∙ ap (λ (count : ℕ). take count text) same)

pub text_is_front : (text : List ℕ) (n : ℕ) → IsUtf8 text → (0 ≤ n → IsCharBoundary text 0 → IsCharBoundary text n → ⊥)
    → IsTextFront text n text
text_is_front text n is none = inr (λ here. none (omega arith) (IsCharBoundary-start text is) here, refl)
