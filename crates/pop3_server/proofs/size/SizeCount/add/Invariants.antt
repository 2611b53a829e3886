use Rattle.std.proofs.Common.{◌≡◌, ◌+◌, length, sum_by}
use Rattle.pop3_server.specs.{Size.{weight, capped}, TextPiece.is_open_after}
use Rattle.pop3_server.proofs.size.SizeCount.add.Given as goal

abbrev pub invariant-loop-line : goal.invariant-loop-line
invariant-loop-line l = (capped (l.self.octets + sum_by weight l.rest) ≡ capped (l.initial.self.octets + sum_by weight l.piece))
    × (is_open_after l.self.in_line l.rest ≡ is_open_after l.initial.self.in_line l.piece)

abbrev pub decreases-loop-line : goal.decreases-loop-line
decreases-loop-line l = length l.rest
