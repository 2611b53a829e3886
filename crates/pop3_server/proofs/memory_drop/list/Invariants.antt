use Rattle.std.proofs.Common.{◌≡◌, map, take}
use Rattle.pop3_server.specs.Maildrop.{there, listed_message}
use Rattle.pop3_server.proofs.memory_drop.list.Given as goal

abbrev pub invariant-loop-slot : goal.invariant-loop-slot
invariant-loop-slot l = l.entries.items ≡ map listed_message (there (take l.slot-index l.slots))
