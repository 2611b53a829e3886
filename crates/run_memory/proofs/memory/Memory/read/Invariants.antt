use Rattle.std.proofs.Common.{◌≡◌, length}
use Rattle.mail_terms.specs.Text.{lines_of_text}
use Rattle.run_memory.specs.Memory.{nothing, told_after}
use Rattle.run_memory.proofs.memory.Memory.read.Given as goal

abbrev pub invariant-loop-rest : goal.invariant-loop-rest
invariant-loop-rest l = told_after l.memory (lines_of_text l.rest) ≡ told_after nothing (lines_of_text l.initial.rest)

abbrev pub decreases-loop-rest : goal.decreases-loop-rest
decreases-loop-rest l = length l.rest
