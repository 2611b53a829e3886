-- What a report says about a session.
use Rattle.std.specs.{
  Prelude.{◌≡◌, ◌+◌, ◌*◌, ◌≤◌, ℕ, Bool, true, false, not, List, [], min, if◌then◌else◌, Vec, Option, Some},
  Vec.{vec_len, vec_capacity},
  List.{filter, count_by, list_any, sum_by},
}
use Rattle.mail_terms.specs.{Numeral.greatest_size, Listing.{Item, message_limit}}
use Rattle.rc_file.specs.declared.settings.Settings.{Settings}
use Rattle.fetch_record.specs.Record.{Row}
use Rattle.fetch_rules.specs.{
  Plan.{fetches, is_for_odd, planned},
  declared.plans.{Skip.{Skip, TheVariants.{Delivered as DeliveredBefore, TooLarge, PastLimit, SameId}}, Step.Step},
}
use Rattle.session_parts.specs.declared.{
  fault.Fault.TheVariants.{StoreRefused, SeenRefused, BadSeen},
  report.{Skips.Skips, Report.Report, Outcome.{Outcome, TheVariants.Cut}},
  report.ReportLine.{ReportLine, TheVariants.{Delivered, Held, Deleted}},
}

-- there is room for `n` more lines
abbrev pub HasRoom : {Z : Type 0} → Vec ReportLine Z → ℕ → Type 0
HasRoom lines n = vec_len lines + n ≤ vec_capacity lines

-- at most `n` lines were added, and no room was given up
abbrev pub AddsLines : {Z : Type 0} → Vec ReportLine Z → ℕ → Vec ReportLine Z → Type 0
AddsLines old n new = (vec_len new ≤ vec_len old + n) × (vec_capacity old ≤ vec_capacity new)

-- whether a line reports a text that was taken
abbrev pub is_text_taken : ReportLine → Bool
is_text_taken (Delivered number octets) = true
is_text_taken (Held number octets) = true
is_text_taken _ = false

-- the length of the text that a line reports
abbrev pub length_in : ReportLine → ℕ
length_in (Delivered number octets) = octets
length_in (Held number octets) = octets
length_in _ = 0

-- whether a line reports a message that was deleted
abbrev pub is_deletion : ReportLine → Bool
is_deletion (Deleted number) = true
is_deletion _ = false

-- whether one of these lines reports a message that was deleted
abbrev pub has_deletions : List ReportLine → Bool
has_deletions lines = list_any is_deletion lines

abbrev pub retrieved_in : List ReportLine → ℕ
retrieved_in lines = count_by is_text_taken lines

abbrev pub length_of : List ReportLine → ℕ
length_of lines = sum_by length_in lines

abbrev pub deleted_in : List ReportLine → ℕ
deleted_in lines = count_by is_deletion lines

-- the lines without those of deletions, which are void if the server takes back its marks
abbrev pub without_deletions : List ReportLine → List ReportLine
without_deletions lines = filter (λ line. not (is_deletion line)) lines

-- how many steps fetch nothing
abbrev pub skipped_in : List Step → ℕ
skipped_in steps = count_by (λ (step : Step). not (fetches step)) steps

-- why a message is passed over, as it is told; one that is deleted was delivered before
abbrev pub reason_of : Step → Option Skip
reason_of step = if step.delete then Some DeliveredBefore else step.skip

abbrev pub is_for_size : Option Skip → Bool
is_for_size (Some TooLarge) = true
is_for_size _ = false

abbrev pub is_for_limit : Option Skip → Bool
is_for_limit (Some PastLimit) = true
is_for_limit _ = false

abbrev pub is_for_id : Option Skip → Bool
is_for_id (Some SameId) = true
is_for_id _ = false

-- how many of these steps pass their message over for such a reason
abbrev pub count_reasons : (Option Skip → Bool) → List Step → ℕ
count_reasons test steps = count_by (λ (step : Step). test (reason_of step)) steps

-- what these steps pass over
abbrev pub skips_of : List Step → Skips
skips_of steps = record {
  all = skipped_in steps;
  left_out = record {
    obstructed = count_reasons is_for_odd steps;
    too_large = count_reasons is_for_size steps;
    past_limit = count_reasons is_for_limit steps;
    repeated = count_reasons is_for_id steps;
  };
}

-- what the plan passes over
abbrev pub skips_planned : Settings → (List ℕ → Bool) → List Row → List Item → ℕ → Skips
skips_planned settings is_odd rows items now = skips_of (planned settings is_odd rows items now)

abbrev pub none_skipped : Skips
none_skipped = skips_of []

-- whether the server is asked to take back its marks
abbrev pub takes_back : Outcome → Bool
takes_back (Cut (StoreRefused why)) = true
takes_back (Cut SeenRefused) = true
takes_back (Cut (BadSeen line)) = true
takes_back _ = false

-- the lines that a report keeps
abbrev pub kept_lines : Outcome → List ReportLine → List ReportLine
kept_lines outcome lines = if takes_back outcome then without_deletions lines else lines

-- a number of bytes, as far as 64 bits go
abbrev pub most_bytes : ℕ → ℕ
most_bytes n = min n greatest_size

-- the most lines that a session notes: two for each message
abbrev pub most_lines : ℕ
most_lines = 2 * message_limit

-- the report of a session with this outcome: `total` messages were listed, the plan passes over `skipped`, and these
-- lines were noted
pub record Reports (outcome : Outcome) (total : ℕ) (skipped : Skips) (lines : List ReportLine)
    (report : Report) : Type 0 where
  pub outcome_is : report.outcome ≡ outcome
  pub total_is : report.total ≡ total
  pub retrieved_is : report.retrieved ≡ retrieved_in lines
  pub bytes_are : report.bytes ≡ most_bytes (length_of lines)
  pub skipped_is : report.skipped ≡ skipped.all
  pub left_out_is : report.left_out ≡ skipped.left_out
  pub deleted_is : report.deleted ≡ deleted_in (kept_lines outcome lines)
  pub lines_are : report.lines.items ≡ kept_lines outcome lines
