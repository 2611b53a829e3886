use Rattle.std.proofs.Common.{◌≡◌, false, length}
use Rattle.pop3_server.specs.LoopLink.{Serves}
use Rattle.local_fetch.proofs.loop_wire.LoopWire.answer_lines.Given as goal

abbrev pub invariant-loop-octets : goal.invariant-loop-octets
invariant-loop-octets g l = (l.self.down ≡ false) × (l.self.link ≡ l.fn.self.link)
    × Serves g.D.Maildrop.sound g.D.Maildrop.mail l.fn.self l.self

abbrev pub decreases-loop-octets : goal.decreases-loop-octets
decreases-loop-octets g l = length l.self.waiting
