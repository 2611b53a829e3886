use Rattle.std.proofs.Common.{◌≡◌, ◌≤◌, ◌+◌, ◌*◌, ◌++◌, length, vec_capacity, vec_len}
use Rattle.pop3_server.specs.TextPiece.{is_open_after, sent_piece}
use Rattle.pop3_server.proofs.stuffer.Stuffer.put.Given as goal

abbrev pub invariant-loop-line : goal.invariant-loop-line
invariant-loop-line l = (l.body.items ++ sent_piece l.self.in_line l.rest ≡ l.fn.body.items ++ sent_piece l.fn.self.in_line l.piece)
    × (is_open_after l.self.in_line l.rest ≡ is_open_after l.fn.self.in_line l.piece) × (vec_capacity l.fn.body ≤ vec_capacity l.body)
    × (vec_len l.body + 2 * length l.rest ≤ vec_len l.fn.body + 2 * length l.piece)

abbrev pub decreases-loop-line : goal.decreases-loop-line
decreases-loop-line l = length l.rest
