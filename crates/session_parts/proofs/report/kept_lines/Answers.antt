use Rattle.std.{specs.Prelude.not, proofs.lemmas.List.Elements.filter_from_retain}
use Rattle.session_parts.specs.{declared.report.ReportLine.ReportLine, Report.is_deletion}
use Rattle.session_parts.proofs.report.kept_lines.Goals as goal

pub returns-clause-kept : goal.returns-clause-kept
returns-clause-kept c =
    let e = filter_from_retain _ (λ (line : ReportLine). not (is_deletion line)) (λ p x b q called. search called) _
    c.args.lines.items c.retain.new.self.items c.retain.ensures.filtered in search e
