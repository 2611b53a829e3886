use Rattle.std.proofs.Common.{arith}
use Rattle.fetch_record.proofs.{
  MergeLemmas.{HasMarked-none, HasMarked-held, HasMarked-free, HasMarked-all},
  row_map.RowMap.mark_held.Goals.{then-held-i, else-held-i},
}
use Rattle.fetch_record.proofs.row_map.RowMap.mark_held.Goals as goal

pub loop-i-init : goal.loop-i-init
loop-i-init g c = HasMarked-none _ c.len.ensures.is_record

pub loop-i-preserved : goal.loop-i-preserved
loop-i-preserved g c = elim c.if-held-i.branch [
  | then-held-i w ↦ rw (w.self-is, w.changed-is)
      (HasMarked-held _ _ _ c.requires (omega arith) w.uid.result.now _ _ _ _ _ w.uid.ensures.value w.if-held-i.true c.loop-i.invariant
      w.mark-changed.ensures.rows w.mark-changed.ensures.changed w.mark-changed.ensures.unchanged w.mark-changed.ensures.is_record)
  | else-held-i w ↦ rw (w.self-is, w.changed-is) (HasMarked-free _ _ _ c.requires (omega arith) _ _ _ w.if-held-i.false c.loop-i.invariant)
]

pub returns-clause-rows : goal.returns-clause-rows
returns-clause-rows g c = HasMarked-all _ _ _ _ _ _ (omega arith) c.loop-i.invariant
