use Rattle.std.proofs.{Common.{◌∙◌, take, arith}, lemmas.List.flat_map_more}
use Rattle.fetch_record.{specs.{RecordFile.{Two, header, record_row_line}, Rows.row_from}, proofs.MergeLemmas.next_rows}
use Rattle.fetch_record.proofs.row_map.RowMap.bytes.Goals as goal

pub loop-place-preserved : goal.loop-place-preserved
loop-place-preserved g c = c.in_ok-write_line.ensures ∙ rw (
  c.loop-place.invariant,
  next_rows c.args.self.now c.loop-place.place (row_from c.at.result.0.now c.at.result.1) (omega arith) (c.at.ensures _),
) (flat_map_more record_row_line (header Two) (take c.loop-place.place c.args.self.now) (row_from c.at.result.0.now c.at.result.1))
