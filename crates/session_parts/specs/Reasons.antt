-- The report with the reasons why messages are passed over.
use Rattle.std.specs.{
  Prelude.{ℕ, ◌-◌, ◌==◌, List, [], ◌∷◌, ◌++◌, flat_map, Option, Some, None, slice_get, option_and_then, false, codes},
  Prelude.if◌then◌else◌,
  Fmt.decimal,
}
use Rattle.rc_file.specs.declared.settings.Settings.{Settings}
use Rattle.fetch_rules.specs.declared.plans.{Skip.Skip, Step.Step}
use Rattle.session_parts.specs.{
  Report.reason_of,
  declared.report.{Report.Report, ReportLine.{ReportLine, TheVariants.Skipped}},
  Telling.skip_text,
  Text.{heading, line_text, message_text, report_text, summary},
}

-- why message `number` was passed over, if what was planned for it is known
abbrev pub reason_at : List Step → ℕ → Option Skip
reason_at plan number = option_and_then reason_of (slice_get plan (number - 1))

-- the line of a message that was passed over, with the reason, if that is known
abbrev pub skipped_text : ℕ → ℕ → ℕ → Option Skip → List ℕ
skipped_text total number size None = message_text total number
    (codes "(" ++ (decimal size ++ codes " octets) skipped\n"))
skipped_text total number size (Some skip) =
    message_text total number
    (codes "(" ++ (decimal size ++ (codes " octets) skipped: " ++ (skip_text skip false ++ codes "\n"))))

-- one line
abbrev pub explained_line : ℕ → ℕ → List Step → ReportLine → List ℕ
explained_line verbose total plan (Skipped number size) = if verbose == 2
    then skipped_text total number size (reason_at plan number) else []
explained_line verbose total plan line = line_text verbose total line

-- the report, each line ended by LF; with verbose 0 it is empty
abbrev pub explained_report : Report → Settings → List Step → List ℕ
explained_report report settings plan =
    if settings.verbose == 0 then []
    else (heading settings ++ flat_map (explained_line settings.verbose report.total plan) report.lines.items) ++
    summary report

-- with the reasons, if a plan is known; else as ever
abbrev pub told_report : List Step → Report → Settings → List ℕ
told_report [] report settings = report_text report settings
told_report (step ∷ plan) report settings = explained_report report settings (step ∷ plan)
