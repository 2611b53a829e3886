use Rattle.std.proofs.{Common.{◌≡◌, ◌↔◌, ◌∙◌, Bool, List, ℕ, IsTrue, arith, inl, inr, rules, subst, sym}, lemmas.Bool.false≢true}
use Rattle.trace.specs.Masking.{Occurs}
use Rattle.trace.proofs.masking.occurs_in_base64.Goals as goal

occurs_in_equal : (has : Bool) (answer octets octets' : List ℕ) → octets ≡ octets' → (IsTrue has ↔ Occurs answer octets)
    → IsTrue has ↔ Occurs answer octets'
occurs_in_equal has answer octets octets' is = subst (λ (o : List ℕ). IsTrue has ↔ Occurs answer o) is

pub returns-then-occurs-2 : goal.returns-then-occurs-2
returns-then-occurs-2 c =
    let second = occurs_in_equal _ c.args.answer.now _ _ (c.as_slice-2.ensures.value ∙ c.in_ok-second.ensures) c.occurs-2.ensures in
    ((λ is. (omega (arith, c.if-octets-lt2.false), inr (inl (second.0 c.if-occurs-2.true)))), search rules)

pub returns : goal.returns
returns c =
    let first = occurs_in_equal _ c.args.answer.now _ _ (c.as_slice.ensures.value ∙ c.in_ok-first.ensures) c.occurs.ensures in
    let second = occurs_in_equal _ c.args.answer.now _ _ (c.as_slice-2.ensures.value ∙ c.in_ok-second.ensures) c.occurs-2.ensures in
    let third = occurs_in_equal _ c.args.answer.now _ _ (c.as_slice-3.ensures.value ∙ c.in_ok-third.ensures) c.occurs-3.ensures in (
      λ is. (omega (arith, c.if-octets-lt2.false), inr (inr (third.0 is))),
      λ found. elim found.1 [
        | inl one ↦ absurd (false≢true (sym c.if-occurs.false ∙ first.1 one))
        | inr others ↦ elim others [
          | inl two ↦ absurd (false≢true (sym c.if-occurs-2.false ∙ second.1 two))
          | inr three ↦ third.1 three
        ]
      ],
    )
