use Rattle.fetch_rules.proofs.PlanLemmas.{HasLasts}
use Rattle.fetch_rules.proofs.occurrence.lasts_by_set.Given as goal

abbrev pub invariant-loop-i : goal.invariant-loop-i
invariant-loop-i l = HasLasts l.listing l.i l.ids l.flags.items
