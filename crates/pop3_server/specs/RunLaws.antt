-- Runs of a server over lines, one after another.
use Rattle.std.{specs.List.AllByRecursion, proofs.Common.{append_assoc, ℕ, List, [], ◌∷◌, ◌++◌}}
use Rattle.pop3_wire.specs.Line.{IsLine}
use Rattle.pop3_server.specs.{Maildrop.DropMail, ServerMachine.Machine, AnswersLines.AnswersLines}

pub runs_on : {D : Type 0} (sound : D → Type 0) (mail : D → DropMail) (a b c : Machine D) (lines others : List (List ℕ))
    (x y : List ℕ)
    → AnswersLines sound mail a lines x b → AnswersLines sound mail b others y c
    → AnswersLines sound mail a (lines ++ others) (x ++ y) c
runs_on sound mail a b c [] others x y (none, same) second = rw none (rw same at second)
runs_on sound mail a b c (line ∷ lines) others x y (first, rest, next, is, turn, run) second = (
  first,
  rest ++ y,
  next,
  rw (is, append_assoc first),
  turn,
  runs_on sound mail next b c lines others rest
      y run second,
)

pub lines_on : (lines others : List (List ℕ)) → AllByRecursion IsLine lines → AllByRecursion IsLine others
    → AllByRecursion IsLine (lines ++ others)
lines_on [] others a b = b
lines_on (line ∷ lines) others a b = (a.0, lines_on lines others a.1 b)
