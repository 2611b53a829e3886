use Rattle.std.proofs.Common.{length}
use Rattle.getmail_program.specs.Noticing.{TakesEach, obstruction_lines}
use Rattle.getmail_program.proofs.errand.tell_obstructions.Given as goal

abbrev pub invariant-loop-rest : goal.invariant-loop-rest
invariant-loop-rest g l = (last : (g.row.N).Denot) → TakesEach g.N.Notices.took (obstruction_lines l.settings l.rest) l.notices last
    → TakesEach g.N.Notices.took (obstruction_lines l.settings l.initial.rest) l.initial.notices last

abbrev pub decreases-loop-rest : goal.decreases-loop-rest
decreases-loop-rest g l = length l.rest
