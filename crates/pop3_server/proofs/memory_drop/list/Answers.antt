use Rattle.std.proofs.{Common.append-nil, lemmas.List.map-append}
use Rattle.pop3_server.proofs.{SlotLemmas.there_more, memory_drop.list.Goals.{in-None, in-Some+in_ok-listed-in-Some+in_ok-push-in-Some}}
use Rattle.pop3_server.proofs.memory_drop.list.Goals as goal

pub loop-slot-preserved : goal.loop-slot-preserved
loop-slot-preserved c =
    let more = there_more c.args.slots.now c.loop-slot.slot-index _ c.loop-slot-test.true c.slot-item.is in
    elim c.match-slot.branch [
      | in-None w ↦ rw (more, w.in-None.is, append-nil, w.entries-is) c.loop-slot.invariant
      | in-Some+in_ok-listed-in-Some+in_ok-push-in-Some w ↦ rw (
        more,
        w.in-Some.is,
        map-append,
        w.entries-is,
        w.in_ok-push-in-Some.ensures.items,
        c.loop-slot.invariant,
        w.in_ok-listed-in-Some.ensures,
      )
    ]
