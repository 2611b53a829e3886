use Rattle.std.{proofs.Common.{◌≡◌, ◌++◌, take, flat_map}, specs.String.string_bytes}
use Rattle.session_parts.specs.{Reasons.explained_line, Text.heading}
use Rattle.session_parts.proofs.reasons.explained_report.Given as goal

abbrev pub invariant-loop-line : goal.invariant-loop-line
invariant-loop-line l = string_bytes l.text ≡ heading l.settings ++ flat_map
    (explained_line l.settings.verbose l.report.total l.plan) (take l.line-index l.line-items)
