use Rattle.fetch_record.{specs.Record.IsRecord, proofs.MergeLemmas.HasAdded}
use Rattle.fetch_record.proofs.row_map.RowMap.add_until_refused.Given as goal

abbrev pub invariant-loop-i : goal.invariant-loop-i
invariant-loop-i g l = HasAdded l.initial.self l.listing l.now l.i l.self × IsRecord l.self
