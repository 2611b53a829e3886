use Rattle.std.proofs.{
  Common.{◌≡◌, ◌<◌, ◌-◌, ◌∙◌, ℕ, List, ap, arith, drop, length, length-drop, rules, subst},
  lemmas.List.take_all,
}
use Rattle.trace.specs.Masking.{AreMarked}
use Rattle.trace.proofs.MarkLemmas.{goes_on_to, kept_by}
use Rattle.trace.proofs.ways.parts_of.Goals as goal

pub loop-start-preserved : goal.loop-start-preserved
loop-start-preserved c =
    let answer = c.args.answer.now in
    let password = c.args.password.now in
    let all = c.deref.result.now in
    let sizes = length-drop c.loop-start.start all in
    let rest = take_all (length all - c.loop-start.start) (drop c.loop-start.start all) (omega (arith, sizes)) in
    let text = rest ∙ ap (drop c.loop-start.start) (c.deref.ensures.value ∙ c.in_ok-lower.ensures.ok) in
    let longest = c.longest.ensures password c.in_ok-ways.ensures in
    let fits : c.loop-start.start < length answer = omega (arith, c.loop-start-test.true) in
    let (hides, keeps) = kept_by c.loop-start.start c.end_after-end.result _ c.kept.result c.kept.ensures in
    goes_on_to answer password _ c.loop-start.start c.loop-start.end c.end_after-end.result c.loop-start.parts.items _
    c.longest.result c.kept.result fits
    c.loop-start.invariant text longest c.end_after-end.ensures hides keeps (search rules)

pub returns : goal.returns
returns c =
    let whole : c.loop-start.start ≡ length c.args.answer.now = omega (arith, c.loop-start-test.false) in
    subst (λ (n : ℕ). AreMarked c.args.answer.now c.args.password.now n c.loop-start.parts.items) whole c.loop-start.invariant.marked
