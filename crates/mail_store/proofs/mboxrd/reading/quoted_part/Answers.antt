use Rattle.std.proofs.{
  Common.{◌≡◌, [], ◌∷◌, ◌++◌, ℕ, List, None, Some, sym, ap, ◌∙◌, arith, inl, inr, length, true≢false},
  lemmas.{Bool.Decides.Decides-eqb, Slice.Eq.strip_suffix_is, List.{append_cancel_left, append_cancel_right, length-append}},
}
use Rattle.mail_store.{
  specs.Mboxrd.{lines_of, IsHead, HoldsText},
  proofs.{MboxLemmas.line_first, mboxrd.reading.quoted_part.Goals.After-cut_line},
}
use Rattle.mail_store.proofs.mboxrd.reading.quoted_part.Goals as goal

-- the parts of a group that holds a text
parts_of : (c : After-cut_line) (text : List ℕ) → HoldsText c.args.group.now text
    → IsHead c.cut_line.result.0.now × (c.cut_line.result.1.now ≡ text ++ 10 ∷ [])
parts_of c text held =
    let head = c.cut_line.result.0.now in
    let rest = c.cut_line.result.1.now in
    let cut = c.cut_line.ensures.cuts in
    let both : head ∷ lines_of rest ≡ held.head ∷ lines_of (text ++ 10 ∷ []) =
    sym cut.lines ∙ ap lines_of held.split ∙ line_first held.head (text ++ 10 ∷ []) held.begins.0 in
    let same : head ≡ held.head = cc in (
      rw same held.begins,
      append_cancel_left head rest (text ++ 10 ∷ []) (sym cut.whole ∙ held.split ∙ ap (λ (l : List ℕ). l ++ (text ++ 10 ∷ [])) (sym same)),
    )

pub returns-in_err-quoted-clause-none : goal.returns-in_err-quoted-clause-none
returns-in_err-quoted-clause-none c = rw c.from_residual.ensures (λ text held.
    let parts = parts_of (goal.at.returns-in_err-quoted-clause-none c).After-cut_line text held in
    strip_suffix_is Decides-eqb c.cut_line.result.1.now (10 ∷ []) None c.in_err-quoted.ensures.cases text parts.1)

pub returns-then-not-begins_entry-clause-none : goal.returns-then-not-begins_entry-clause-none
returns-then-not-begins_entry-clause-none c = λ text held.
    let ((_, begins), _) = parts_of (goal.at.returns-then-not-begins_entry-clause-none c).After-cut_line text held in
    true≢false (sym begins ∙ sym c.begins_entry.ensures ∙ c.if-not-begins_entry.true)

pub returns-then-not-is_whole-clause-none : goal.returns-then-not-is_whole-clause-none
returns-then-not-is_whole-clause-none c = λ text held.
    let parts = parts_of (goal.at.returns-then-not-is_whole-clause-none c).After-cut_line text held in
    let ends = strip_suffix_is Decides-eqb c.cut_line.result.1.now (10 ∷ []) (Some c.in_ok-quoted.quoted) c.in_ok-quoted.ensures.cases in
    let same = append_cancel_right c.in_ok-quoted.quoted.now text (10 ∷ []) (sym ends ∙ parts.1) in
    true≢false (sym (c.is_whole.ensures.1 (rw same held.whole)) ∙ c.if-not-is_whole.true)

pub returns-clause-found : goal.returns-clause-found
returns-clause-found c =
    let cut = c.cut_line.ensures.cuts in
    let ends = strip_suffix_is Decides-eqb c.cut_line.result.1.now (10 ∷ []) (Some c.in_ok-quoted.quoted) c.in_ok-quoted.ensures.cases in
    elim cut.ended [
      | inl is ↦ record {
        head = c.cut_line.result.0.now;
        begins = (is, sym c.begins_entry.ensures ∙ c.if-not-begins_entry.false);
        whole = c.is_whole.ensures.0 c.if-not-is_whole.false;
        split = cut.whole ∙ ap (λ (l : List ℕ). c.cut_line.result.0.now ++ l) ends;
      }
      | inr none ↦ absurd (omega (arith, ap length (sym none ∙ ends), length-append c.in_ok-quoted.quoted.now (10 ∷ [])))
    ]
