use Rattle.std.proofs.Common.{◌≡◌, ℕ, ◌<◌, ◌≤◌, length, get_or, true}
use Rattle.pop3_wire.specs.Fields.{is_space}
use Rattle.pop3_wire.proofs.command_line.without_spaces.Given as goal

abbrev pub invariant-loop-length : goal.invariant-loop-length
invariant-loop-length l = (l.length ≤ length l.line) × ((k : ℕ) → l.length ≤ k → k < length l.line → is_space (get_or l.line k 0) ≡ true)

abbrev pub decreases-loop-length : goal.decreases-loop-length
decreases-loop-length l = l.length
