use Rattle.std.proofs.{Common.{arith, length-append}, lemmas.List.map-append}
use Rattle.pop3_wire.specs.World.{Message}
use Rattle.pop3_server.proofs.SlotLemmas.{there-append, distinct_push}
use Rattle.pop3_server.proofs.memory_drop.MemoryDrop.push.Goals as goal

pub invariant_of-self-2 : goal.invariant_of-self-2
invariant_of-self-2 c =
    let room = rw (← c.self.view_is) at c.requires.room in
    rw (c.in_ok-push.ensures.items, there-append, map-append, c.in_ok-message.ensures) (
      distinct_push _ _ c.self.invariant.0 (rw (← c.self.view_is) at c.requires.absent),
      omega (arith, length-append {A = Message}, room),
    )
