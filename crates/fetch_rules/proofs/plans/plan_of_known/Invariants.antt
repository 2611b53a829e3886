use Rattle.std.proofs.Common.{Bool, List, ℕ}
use Rattle.fetch_rules.proofs.PlanLemmas.{HasPlanned}
use Rattle.fetch_rules.proofs.plans.plan_of_known.Given as goal

abbrev pub invariant-loop-i : goal.invariant-loop-i
invariant-loop-i g l = (is_odd : List ℕ → Bool) → HasPlanned l.settings is_odd l.seen.rows l.listing l.now l.i l.steps.items 0
