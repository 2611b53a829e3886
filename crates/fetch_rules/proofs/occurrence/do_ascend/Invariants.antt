use Rattle.fetch_rules.proofs.PlanLemmas.{Ascends}
use Rattle.fetch_rules.proofs.occurrence.do_ascend.Given as goal

abbrev pub invariant-loop-i : goal.invariant-loop-i
invariant-loop-i l = Ascends l.listing l.i
