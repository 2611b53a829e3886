use Rattle.std.proofs.Common.{◌≤◌}
use Rattle.mail_terms.specs.Listing.{is_flagged}
use Rattle.fetch_record.{specs.Record.Row, proofs.MergeLemmas.HasWritten}
use Rattle.fetch_record.proofs.row_map.RowMap.group_of_changes.Given as goal

abbrev pub invariant-loop-place : goal.invariant-loop-place
invariant-loop-place g l = HasWritten l.count (λ (row : Row). is_flagged l.listing l.held row.uid) l.self l.place
    l.changes l.lines.items × (l.changes ≤ l.place)
