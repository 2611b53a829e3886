use Rattle.std.proofs.{
  Common.{◌≡◌, inl, inr, [], ◌∷◌, ◌+◌, ◌-◌, length, take, ap, arith, length-append, slice_index, take_at},
  lemmas.Bool.Decides.Decides-eqb,
}
use Rattle.mail_store.proofs.MboxLemmas.{line_back}
use Rattle.mail_store.proofs.mboxrd.quoting.last_line.Goals as goal

pub returns-in-Some-clause-line : goal.returns-in-Some-clause-line
returns-in-Some-clause-line c = elim c.requires.whole [
  | inl e ↦ absurd (omega (arith, ap length e, c.requires.some))
  | inr p ↦
      let hay : take (length c.args.text.now - 1) c.args.text.now ≡ p.0 =
      rw p.1 (take_at p.0 (10 ∷ []) _ (omega (arith, length-append p.0 (10 ∷ [])))) in
      let found = (rw hay at c.in-Some.ensures).0 in
      rw p.1 (line_back p.0 (c.in-Some.place + 1) (omega (arith, found.high))
      (λ k behind below at. found.after k behind below ((Decides-eqb (slice_index p.0 k) 10).1 at)))
]
