use Rattle.fetch_rules.proofs.PlanLemmas.{PlansSoFar}
use Rattle.fetch_rules.proofs.plans.plan_without.Given as goal

abbrev pub invariant-loop-i : goal.invariant-loop-i
invariant-loop-i g l = PlansSoFar l.settings l.seen.rows l.listing l.odd l.now l.i l.steps.items l.fetched
