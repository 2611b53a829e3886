use Rattle.std.{proofs.Common.{◌≡◌, ◌++◌, take, flat_map}, specs.String.string_bytes}
use Rattle.session_parts.specs.Text.{heading, line_text}
use Rattle.session_parts.proofs.text.report_text.Given as goal

abbrev pub invariant-loop-line : goal.invariant-loop-line
invariant-loop-line l = string_bytes l.text ≡ heading l.settings ++ flat_map
    (line_text l.settings.verbose l.report.total) (take l.line-index l.line-items)
