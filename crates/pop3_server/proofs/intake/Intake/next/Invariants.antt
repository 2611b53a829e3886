use Rattle.std.proofs.Common.{◌≡◌, ◌≤◌, ◌<◌, ◌+◌, ◌*◌, true, length}
use Rattle.pop3_wire.specs.Link.{WhereSound}
use Rattle.pop3_server.proofs.ServeLemmas.{Reading}
use Rattle.pop3_server.proofs.intake.Intake.next.Given as goal

abbrev pub invariant-loop-length : goal.invariant-loop-length
invariant-loop-length g l = ((g.W.Wire.history l.wire).failures ≡ (g.W.Wire.history l.fn.wire).failures)
    × (length l.self.octets + 2 * l.self.left ≤ length l.fn.self.octets + 2 * l.fn.self.left)
    × (l.is_long ≡ true → length l.self.octets + 2 * l.self.left < length l.fn.self.octets + 2 * l.fn.self.left)
    × WhereSound g.W.Wire.sound g.W.Wire.leads_to l.fn.wire l.wire
    (Reading l.is_long l.fn.self (g.W.Wire.history l.fn.wire) l.self (g.W.Wire.history l.wire))

abbrev pub decreases-loop-length : goal.decreases-loop-length
decreases-loop-length g l = length l.self.octets + 2 * l.self.left
