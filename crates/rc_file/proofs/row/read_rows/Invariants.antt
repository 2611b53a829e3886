use Rattle.std.proofs.Common.{◌≡◌, ◌≤◌, ◌+◌, length, map}
use Rattle.rc_file.specs.{LineRules.judge, FileRows.rows_of, RowReading.{rows_in, file_rows}}
use Rattle.rc_file.proofs.row.read_rows.Given as goal

-- the rows so far and the lines still to come make the file
abbrev pub invariant-loop-line : goal.invariant-loop-line
invariant-loop-line l =
    (rows_of l.fn.bytes ≡ file_rows (rows_in l.rows.items) (l.number + 1) (map judge l.line-iterator))
    × (l.number + length l.line-iterator ≤ 65536)
