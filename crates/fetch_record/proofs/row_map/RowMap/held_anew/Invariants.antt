use Rattle.fetch_record.proofs.MergeLemmas.{HasHeldAnew}
use Rattle.fetch_record.proofs.row_map.RowMap.held_anew.Given as goal

abbrev pub invariant-loop-i : goal.invariant-loop-i
invariant-loop-i g l = HasHeldAnew l.self l.listing l.held l.i l.ids
