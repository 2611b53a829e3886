use Rattle.std.proofs.Common.{take, Contains}
use Rattle.pop3_server.specs.Maildrop.{ids}
use Rattle.pop3_server.proofs.memory_drop.has_id.Given as goal

abbrev pub invariant-loop-slot : goal.invariant-loop-slot
invariant-loop-slot l = Contains (ids (take l.slot-index l.slots)) l.uid → ⊥
