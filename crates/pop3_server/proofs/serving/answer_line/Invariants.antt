use Rattle.std.proofs.Common.{◌-◌, Option, None, Some, ◌≡◌, ◌≤◌, ◌<◌, ◌++◌, ℕ, List, not, IfSome, vec_capacity}
use Rattle.pop3_wire.specs.Link.{WhereSound}
use Rattle.pop3_server.specs.{AnswersLines.MakesAnswer, ServerMachine.is_open, declared.text_part.TextBody.TextBody}
use Rattle.pop3_server.proofs.serving.answer_line.Given as goal

-- how many more octets of a text may follow, and its end
abbrev pub to_come : Option TextBody → ℕ
to_come None = 0
to_come (Some text) = 18446744073709551617 - text.start

abbrev pub invariant-loop-bytes : goal.invariant-loop-bytes
invariant-loop-bytes g l = ((g.W.Wire.history l.wire).failures ≡ (g.W.Wire.history l.fn.wire).failures)
    × (l.closing ≡ not (is_open l.server.state)) × IfSome l.rest (λ text. (0 < text.start) × (98309 ≤ vec_capacity l.bytes))
    × ((sent : List ℕ) × MakesAnswer g.D.Maildrop.sound g.D.Maildrop.mail l.fn.server l.fn.line (sent ++ l.bytes.items) l.rest l.server
    × WhereSound g.W.Wire.sound g.W.Wire.leads_to l.fn.wire l.wire (g.W.Wire.history l.wire ≡ record (g.W.Wire.history l.fn.wire) {
      sent =
          (g.W.Wire.history l.fn.wire).sent ++ sent;
    }))

abbrev pub decreases-loop-bytes : goal.decreases-loop-bytes
decreases-loop-bytes g l = to_come l.rest
