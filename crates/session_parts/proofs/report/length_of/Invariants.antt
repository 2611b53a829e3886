use Rattle.std.proofs.Common.{◌≡◌, take, sum_by}
use Rattle.session_parts.specs.Report.{length_in, most_bytes}
use Rattle.session_parts.proofs.report.length_of.Given as goal

abbrev pub invariant-loop-line : goal.invariant-loop-line
invariant-loop-line l = l.total ≡ most_bytes (sum_by length_in (take l.line-index l.lines))
