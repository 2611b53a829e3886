use Rattle.std.{proofs.Common.{◌≡◌, drop}, specs.List.{filter_map, last_or}}
use Rattle.rc_file.specs.{FaultLine.{last_line, line_at}, RowReading.rows_in}
use Rattle.rc_file.proofs.place.last_line.Given as goal

-- the last of what was found and of what is still to come decides
abbrev pub invariant-loop-row : goal.invariant-loop-row
invariant-loop-row l =
    last_line l.fault (rows_in l.rows) ≡ last_or l.found (filter_map (line_at l.fault) (rows_in (drop l.row-index l.rows)))
