use Rattle.std.proofs.Common.{length}
use Rattle.fetch_record.{specs.Lines.open_seen, proofs.ReadLemmas.Reads}
use Rattle.fetch_record.proofs.row_map.RowMap.read_lines.Given as goal

abbrev pub invariant-loop-line : goal.invariant-loop-line
invariant-loop-line g l = Reads l.bytes l.lines l.older l.part (open_seen l.intent) l.self l.rest l.appended l.number l.front

abbrev pub decreases-loop-line : goal.decreases-loop-line
decreases-loop-line g l = length l.rest
