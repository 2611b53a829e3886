use Rattle.std.proofs.{
  Common.{◌∙◌, ◌≡◌, ◌⊎◌, ◌↔◌, ℕ, List, Bool, IsTrue, ap, arith, inl, inr, rules, subst, sym},
  Math.Nat.eq-or-lt_of_le,
  lemmas.Bool.false≢true,
}
use Rattle.trace.specs.Masking.{Occurs, OccursInBase64, TellsRow, password_row}
use Rattle.trace.proofs.masking.tells_a_row.Goals as goal

-- what is known of a row, of equal octets
tells_of_equal : (has : Bool) (answer said said' lower lower' row row' : List ℕ) → said ≡ said' → lower ≡ lower' → row ≡ row'
    → (IsTrue has ↔ (Occurs said lower ⊎ OccursInBase64 answer row)) → IsTrue has ↔ (Occurs said' lower' ⊎ OccursInBase64 answer row')
tells_of_equal has answer said said' lower lower' row row' p q r h =
    subst (λ x. IsTrue has ↔ (Occurs x lower' ⊎ OccursInBase64 answer row')) p
    (subst (λ x. IsTrue has ↔ (Occurs said x ⊎ OccursInBase64 answer row')) q
    (subst (λ x. IsTrue has ↔ (Occurs said lower ⊎ OccursInBase64 answer x)) r h))

pub returns-then-branch : goal.returns-then-branch
returns-then-branch c =
    let secret = c.as_slice.ensures.value ∙ c.in_ok-secret.ensures.ok in
    let told = tells_of_equal _ c.args.answer.now _ _ _ _ _ _ (c.as_slice-in-loop-start.ensures.value ∙ c.in_ok-said.ensures.ok)
    (c.row_at-lower.ensures ∙ ap (λ (s : List ℕ). password_row s c.loop-start.start) secret) c.row_at-row.ensures c.in_ok-has_row.ensures in
    ((λ is. (c.loop-start.start, omega arith, told.0 c.if-branch.true)), search rules)

pub loop-start-preserved : goal.loop-start-preserved
loop-start-preserved c place below tells =
    let secret = c.as_slice.ensures.value ∙ c.in_ok-secret.ensures.ok in
    let told = tells_of_equal _ c.args.answer.now _ _ _ _ _ _ (c.as_slice-in-loop-start.ensures.value ∙ c.in_ok-said.ensures.ok)
    (c.row_at-lower.ensures ∙ ap (λ (s : List ℕ). password_row s c.loop-start.start) secret) c.row_at-row.ensures c.in_ok-has_row.ensures in
    elim (eq-or-lt_of_le {n = place} {m = c.loop-start.start} (omega arith)) [
      | inl here ↦ absurd (false≢true (sym c.if-branch.false ∙ told.1 (subst (TellsRow c.args.answer.now c.args.password.now) here tells)))
      | inr before ↦ absurd (c.loop-start.invariant place before tells)
    ]
