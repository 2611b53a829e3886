use Rattle.std.{proofs.Common.{◌∙◌, List, ℕ, [], ◌∷◌, take, nat_eq, sym, ap, arith, true≢false}, specs.Cmp.Lexicographic.pointwise}
use Rattle.fetch_record.proofs.{
  LineLemmas.{stripped, behind_sign, number_behind},
  line.read_group_line.Goals.{then-count-eq0-via-then-count-eq0, then-count-eq0-via-else-count-eq0+then-count-from},
}
use Rattle.fetch_record.proofs.line.read_group_line.Goals as goal

pub returns-in_default-clause-none : goal.returns-in_default-clause-none
returns-in_default-clause-none c = λ count behind some small is.
    true≢false (ap (λ (xs : List ℕ). pointwise nat_eq (take 2 xs) (43 ∷ 32 ∷ [])) (sym is) ∙ c.in_default.ensures.cases)

pub returns-in_err-count-clause-none : goal.returns-in_err-count-clause-none
returns-in_err-count-clause-none c = rw c.from_residual.ensures (λ count behind some small is.
    c.in_err-count.ensures.none count behind (omega (arith, small))
    (behind_sign _ _ count behind (stripped (43 ∷ 32 ∷ []) c.args.bytes.now c.in-Some.line c.in-Some.ensures.cases) is))

pub returns-then-count-eq0-clause-none : goal.returns-then-count-eq0-clause-none
returns-then-count-eq0-clause-none c = λ count behind some small is.
    let same = (number_behind 10 _ c.in_ok-count.count _ count behind (omega arith) c.in_ok-count.ensures.fits
    (omega (arith, small)) c.in_ok-count.ensures.found
    (behind_sign _ _ count behind (stripped (43 ∷ 32 ∷ []) c.args.bytes.now c.in-Some.line c.in-Some.ensures.cases) is)).0 in
    elim c.then-count-eq0.branch [
      | then-count-eq0-via-then-count-eq0 w ↦ omega (arith, same, some, w.if-count-eq0.true)
      | then-count-eq0-via-else-count-eq0+then-count-from w ↦ omega (arith, same, small, w.if-count-from.true, w.from.ensures)
    ]
