use Rattle.std.proofs.Common.{length, ap, arith, length-append}
use Rattle.pop3_server.proofs.{SlotLemmas.there_more, memory_drop.count.Goals.{in-None, in-Some}}
use Rattle.pop3_server.proofs.memory_drop.count.Goals as goal

pub loop-slot-preserved : goal.loop-slot-preserved
loop-slot-preserved c =
    let more = simp length-append at
    (ap length (there_more c.args.slots.now c.loop-slot.slot-index _ c.loop-slot-test.true c.slot-item.is)) in
    elim c.match-slot.branch [ in-None w ↦ grind (arith, rw w.in-None.is at more) | in-Some w ↦ grind (arith, rw w.in-Some.is at more) ]
