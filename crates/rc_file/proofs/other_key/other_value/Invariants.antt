use Rattle.std.{proofs.Common.{◌≡◌, drop, option_copied}, specs.List.{filter_map, last_or}}
use Rattle.rc_file.specs.{OtherKey.{other_at, other_value}, RowReading.rows_in}
use Rattle.rc_file.proofs.other_key.other_value.Given as goal

-- the last of what was found and of what is still to come decides
abbrev pub invariant-loop-row : goal.invariant-loop-row
invariant-loop-row l = other_value l.section l.key (rows_in l.rows)
    ≡ last_or (option_copied l.found) (filter_map (other_at l.section l.key) (rows_in (drop l.row-index l.rows)))
