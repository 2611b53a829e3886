use Rattle.fetch_rules.proofs.PlanLemmas.{HasFirsts}
use Rattle.fetch_rules.proofs.occurrence.firsts_by_set.Given as goal

abbrev pub invariant-loop-i : goal.invariant-loop-i
invariant-loop-i l = HasFirsts l.listing l.i l.ids l.flags.items
