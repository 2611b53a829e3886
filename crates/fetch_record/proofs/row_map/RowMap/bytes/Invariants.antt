use Rattle.std.proofs.Common.{◌≡◌, ◌++◌, take, flat_map}
use Rattle.fetch_record.specs.RecordFile.{Two, header, record_row_line}
use Rattle.fetch_record.proofs.row_map.RowMap.bytes.Given as goal

abbrev pub invariant-loop-place : goal.invariant-loop-place
invariant-loop-place g l = l.bytes.items ≡ header Two ++ flat_map record_row_line (take l.place l.self)
