use Rattle.std.proofs.Common.{sym, arith}
use Rattle.rc_file.proofs.{RcMeaningLemmas.row_at, warning.find_warnings.Goals.{then-has_no_effect+in_ok-tell, else-has_no_effect}}
use Rattle.rc_file.proofs.warning.find_warnings.Goals as goal

pub loop-row-preserved : goal.loop-row-preserved
loop-row-preserved c =
    elim c.if-has_no_effect.branch [
      | then-has_no_effect+in_ok-tell w ↦ rw (w.told-is, w.warnings-is) (w.in_ok-tell.ensures _ _ (rw (sym w.if-has_no_effect.ensures) at
          (rw (row_at c.args.rows.now c.loop-row.row-index c.row-item.result (omega arith) c.row-item.is) at c.loop-row.invariant)))
      | else-has_no_effect w ↦ rw (w.told-is, w.warnings-is) (rw (sym w.if-has_no_effect.ensures) at
          (rw (row_at c.args.rows.now c.loop-row.row-index c.row-item.result (omega arith) c.row-item.is) at c.loop-row.invariant))
    ]
