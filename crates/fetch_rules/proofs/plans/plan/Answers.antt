use Rattle.std.proofs.{Common.{◌∙◌, ap, false, length, sym}, lemmas.{List.length-map, Result.IfOk-weaker, Simd.splat_is_map}}
use Rattle.fetch_rules.{specs.Wanted.none_odd, proofs.PlanLemmas.retrieved-planned}
use Rattle.fetch_rules.proofs.plans.plan.Goals as goal

pub plan_without-requires : goal.plan_without-requires
plan_without-requires g c = ap length (c.deref.ensures.value ∙ c.in_ok-none.ensures.items_if_clones_equal (λ y same. same)
    ∙ splat_is_map c.args.listing.now c.len.result false (sym c.len.ensures.count)) ∙ length-map c.args.listing.now (λ _. false)

pub returns-clause-steps : goal.returns-clause-steps
returns-clause-steps g c = c.plan_without.ensures none_odd (c.deref.ensures.value
    ∙ c.in_ok-none.ensures.items_if_clones_equal (λ y same. same)
    ∙ splat_is_map c.args.listing.now c.len.result false (sym c.len.ensures.count))

pub returns-clause-fetched : goal.returns-clause-fetched
returns-clause-fetched g c = IfOk-weaker c.plan_without.result _ _
    (λ steps is. rw is (retrieved-planned c.args.settings.now none_odd c.args.seen.now.rows c.args.listing.now c.args.now))
    (returns-clause-steps g c)
