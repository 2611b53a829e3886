use Rattle.std.proofs.Common.{◌≡◌, ◌++◌, ◌-◌, ℕ, List, length}
use Rattle.pop3_wire.specs.Place.{at, Gains, GoesOn}
use Rattle.pop3_wire.proofs.line_reader.LineReader.line.Given as goal

abbrev pub invariant-loop-length : goal.invariant-loop-length
invariant-loop-length g l =
    ((g.W.Wire.history l.wire).failures ≡ (g.W.Wire.history l.fn.wire).failures) × ((gained : List ℕ) × (l.self ≡ l.fn.self ++ gained)
    × (g.W.Wire.sound l.wire → g.W.Wire.sound l.fn.wire × g.W.Wire.leads_to l.fn.wire l.wire
    × Gains (at (g.W.Wire.history l.fn.wire) l.fn.self) (at (g.W.Wire.history l.wire) l.self) gained
    × GoesOn (g.W.Wire.history l.fn.wire) (g.W.Wire.history l.wire)))

abbrev pub decreases-loop-length : goal.decreases-loop-length
decreases-loop-length g l = l.limit - length l.self
