use Rattle.std.proofs.Common.{take, zip}
use Rattle.fetch_record.proofs.MergeLemmas.{HasMarked}
use Rattle.fetch_record.proofs.row_map.RowMap.mark_held.Given as goal

abbrev pub invariant-loop-i : goal.invariant-loop-i
invariant-loop-i g l = HasMarked (take l.i (zip l.listing l.held)) l.initial.self l.changed l.self
