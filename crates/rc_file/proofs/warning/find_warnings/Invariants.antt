use Rattle.std.proofs.Common.{drop, map, filter}
use Rattle.rc_file.specs.{RcMeaning.{has_no_effect, warned, warnings_in}, RowReading.rows_in, WarningSearch.{IsFinding, warning_of}}
use Rattle.rc_file.proofs.warning.find_warnings.Given as goal

abbrev pub invariant-loop-row : goal.invariant-loop-row
invariant-loop-row l =
    IsFinding (warnings_in (rows_in l.rows)) (map warned (filter has_no_effect (rows_in (drop l.row-index l.rows))))
    (map warning_of l.warnings.items) l.told
