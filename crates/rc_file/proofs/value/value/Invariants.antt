use Rattle.std.{proofs.Common.{◌≡◌, drop, option_copied}, specs.List.{filter_map, last_or}}
use Rattle.rc_file.specs.{RcMeaning.{value_at, value_of}, RowReading.rows_in}
use Rattle.rc_file.proofs.value.value.Given as goal

-- the last of what was found and of what is still to come decides
abbrev pub invariant-loop-row : goal.invariant-loop-row
invariant-loop-row l =
    value_of (rows_in l.rows) l.key ≡ last_or (option_copied l.found) (filter_map (value_at l.key) (rows_in (drop l.row-index l.rows)))
