use Rattle.std.proofs.Common.{◌≡◌, ◌++◌, ℕ, List, length}
use Rattle.pop3_server.specs.TextPiece.{taken_of_top}
use Rattle.pop3_server.proofs.text_top.Top.take.Given as goal

abbrev pub invariant-loop-rest : goal.invariant-loop-rest
invariant-loop-rest l = (front : List ℕ) × (l.piece ≡ front ++ l.rest)
    × ((rest : List ℕ) → taken_of_top l.fn.self (l.piece ++ rest) ≡ front ++ taken_of_top l.self (l.rest ++ rest))

abbrev pub decreases-loop-rest : goal.decreases-loop-rest
decreases-loop-rest l = length l.rest
