use Rattle.std.proofs.{Common.{◌∙◌, Some, false, refl, sym, arith, get_or, inl, rules}, lemmas.Result.IfOk-weaker}
use Rattle.fetch_rules.{
  specs.{Plan.seen_since, declared.plans.Skip.TheVariants.Delivered},
  proofs.PlanLemmas.{all_known, never_due, HasPlanned-more, HasPlanned-all},
}
use Rattle.fetch_rules.proofs.plans.plan_of_known.Goals as goal

pub returns-then-may_delete : goal.returns-then-may_delete
returns-then-may_delete g c = λ is_odd. IfOk-weaker c.plan.result _ _ (λ steps is. is ∙ all_known c.args.settings.now is_odd
    c.args.seen.now.rows c.args.listing.now c.args.now c.requires.new_alone c.requires.known) c.plan.ensures.steps

pub loop-i-init : goal.loop-i-init
loop-i-init g c = λ is_odd. record { steps_are = search rules; count = inl refl; few = omega arith }

pub loop-i-preserved : goal.loop-i-preserved
loop-i-preserved g c = λ is_odd.
    let settings = c.args.settings.now in
    let rows = c.args.seen.now.rows in
    let listing = c.args.listing.now in
    rw c.in_ok-push.ensures.items
    (HasPlanned-more settings is_odd rows listing c.args.now c.loop-i.i _ 0 _ (Some Delivered) false 0 (c.loop-i.invariant is_odd)
    (omega arith) refl
    (λ d. rw (c.requires.new_alone, c.requires.known c.loop-i.i d (omega arith)) refl)
    (λ d. rw (never_due settings c.args.now (seen_since rows (get_or listing c.loop-i.i d).uid c.args.now)
    (sym c.may_delete.ensures ∙ c.if-may_delete.false)) refl) refl)

pub returns : goal.returns
returns g c = λ is_odd. HasPlanned-all _ is_odd _ _ _ _ _ _ (c.loop-i.invariant is_odd) (omega arith)
