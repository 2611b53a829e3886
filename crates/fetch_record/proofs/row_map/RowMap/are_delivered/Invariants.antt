use Rattle.std.{proofs.Common.{◌≡◌, true}, specs.List.AllWithin}
use Rattle.fetch_record.proofs.row_map.RowMap.are_delivered.Given as goal

abbrev pub invariant-loop-place : goal.invariant-loop-place
invariant-loop-place g l = AllWithin (λ row. row.delivered ≡ true) l.self 0 l.place
