use Rattle.std.proofs.Common.{◌<◌, ℕ}
use Rattle.trace.specs.Masking.{TellsRow}
use Rattle.trace.proofs.masking.tells_a_row.Given as goal

abbrev pub invariant-loop-start : goal.invariant-loop-start
invariant-loop-start l = (place : ℕ) → place < l.start → TellsRow l.answer l.password place → ⊥
