use Rattle.std.proofs.Common.{◌≡◌, ◌+◌, ◌*◌, true, length}
use Rattle.pop3_wire.specs.Link.{WhereSound}
use Rattle.pop3_server.{specs.ServerMachine.is_open, proofs.ServeLemmas.Progress}
use Rattle.pop3_server.proofs.serving.serve_and_note.Given as goal

abbrev pub invariant-loop-hello : goal.invariant-loop-hello
invariant-loop-hello g l = ((g.W.Wire.history l.wire).failures ≡ (g.W.Wire.history l.fn.wire).failures) × (is_open l.server.state ≡ true)
    × ((g.D.Maildrop.mail l.server.drop).removals ≡ (g.D.Maildrop.mail l.fn.server.drop).removals)
    × WhereSound g.W.Wire.sound g.W.Wire.leads_to l.fn.wire l.wire
    (Progress g.D.Maildrop.sound g.D.Maildrop.mail l.fn.server (g.W.Wire.history l.fn.wire) l.server (g.W.Wire.history l.wire) l.intake)

abbrev pub decreases-loop-hello : goal.decreases-loop-hello
decreases-loop-hello g l = length l.intake.octets + 2 * l.intake.left
