use Rattle.std.proofs.Common.{[]}
use Rattle.getmail_program.specs.Teller.{HearsPlans}
use Rattle.getmail_program.proofs.teller.TellerListener.hear.Given as goal

abbrev pub invariant-loop-i : goal.invariant-loop-i
invariant-loop-i g l = HearsPlans g.O.Write.contents l.fn.self [] l.self
