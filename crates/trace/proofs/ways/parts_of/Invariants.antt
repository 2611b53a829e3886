use Rattle.trace.proofs.MarkLemmas.{GoesOn}
use Rattle.trace.proofs.ways.parts_of.Given as goal

abbrev pub invariant-loop-start : goal.invariant-loop-start
invariant-loop-start l = GoesOn l.answer l.password l.start l.end l.parts.items
