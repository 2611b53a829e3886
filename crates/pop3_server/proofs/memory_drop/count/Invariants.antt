use Rattle.std.proofs.Common.{◌≡◌, ◌≤◌, length, take}
use Rattle.pop3_server.specs.Maildrop.{there}
use Rattle.pop3_server.proofs.memory_drop.count.Given as goal

abbrev pub invariant-loop-slot : goal.invariant-loop-slot
invariant-loop-slot l = (l.count ≡ length (there (take l.slot-index l.slots))) × (l.count ≤ l.slot-index)
