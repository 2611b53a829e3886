-- What is told at a session's end.
use Rattle.std.specs.{
  Prelude.{◌≡◌, ◌≢◌, ◌⊎◌, ◌+◌, ℕ, Bool, true, false, ◌==◌, List, [], ◌++◌, Option, None, Some, codes, length},
  Prelude.if◌then◌else◌,
  Fmt.decimal,
}
use Rattle.rc_file.specs.declared.settings.Settings.{Settings}
use Rattle.session_parts.specs.{
  declared.{
    fault.Fault.{Fault, TheVariants.{NoMemory as OutOfMemory}},
    report.{LeftOut.LeftOut, Outcome.{Outcome, TheVariants.{Ended, Cut}}, Report.Report},
  },
  Reasons.told_report,
  Telling.preview_text,
  Text.{fault_text, report_text},
}
use Rattle.fetch_rules.specs.declared.plans.Step.{Step}
use Rattle.run_memory.specs.declared.run.Counts.{Counts}
use Rattle.getmail_setup.specs.{
  declared.output.{Output.Output, OutputRefusal.{OutputRefusal, TheVariants.{NoMemory, Refused}}},
  declared.errors.Errors.Errors,
  Output.Puts,
}
use Rattle.getmail_program.specs.{
  declared.{ending.Fetched.Fetched, findings.Findings.Findings, told.Told.{Told, TheVariants.{Done, Ahead}}},
  Findings.FindsOn,
  Reasons.{reason_line, reasons_said},
  Teller.TellsEarly,
}

-- ---- what a session says

abbrev pub told_outcome : Told → Outcome
told_outcome (Done report) = report.outcome
told_outcome (Ahead preview) = preview.outcome

-- a report was written, and nothing else, or its beginning; its plan, for the reasons why messages were passed over, is
-- none or the session's own, and none unless it is asked for
pub record WritesReport {O : Type 0} (contents : O → Option (List ℕ)) (explains : Bool) (settings : Settings)
    (IsPlan : Report → List Step → Type 0) (report : Report) (out out' : Output O)
    : Type 0 where
  pub plan : List Step
  pub own : (plan ≡ []) ⊎ IsPlan report plan
  pub asked : explains ≡ false → plan ≡ []
  pub puts : Puts contents out (told_report plan report settings) out' ⊎ TellsEarly contents settings out out'

-- what a session said was written to `out`, and nothing else
abbrev pub Reported : {O : Type 0} → (O → Option (List ℕ)) → Bool → Settings → (Report → List Step → Type 0) → Told
    → Output O → Output O → Type 0
Reported contents explains settings IsPlan (Done report) out out' =
    WritesReport contents explains settings IsPlan report out out'
Reported contents explains settings IsPlan (Ahead preview) out out' =
    Puts contents out (preview_text preview settings) out'

-- the plan passes over all that is listed, or nothing was to be done
abbrev pub is_idle : Told → Bool
is_idle (Done report) = report.skipped == report.total
is_idle (Ahead preview) = true

-- all that the plan passes over is left out
abbrev pub is_none_known : Report → Bool
is_none_known report = report.skipped == (report.left_out.obstructed + report.left_out.too_large)
    + (report.left_out.past_limit + report.left_out.repeated)

-- how many messages were listed, if none is passed over because it is known; else 0
abbrev pub unknown_in : Told → ℕ
unknown_in (Done report) = if is_none_known report then report.total else 0
unknown_in (Ahead preview) = 0

-- ---- lines

-- the line of a fault
abbrev pub told_fault_line : Fault → List ℕ
told_fault_line fault = codes "getmail: " ++ (fault_text fault ++ codes "\n")

-- the line of the fault that cut a session, if one did
abbrev pub outcome_line : Outcome → List ℕ
outcome_line Ended = []
outcome_line (Cut fault) = told_fault_line fault

-- how many messages were left out for one reason, and its words
abbrev pub left_out_reason : ℕ → List ℕ → List ℕ
left_out_reason count words = if count == 0 then [] else decimal count ++ words

-- two texts, with a comma between them if neither is empty
abbrev pub with_comma : List ℕ → List ℕ → List ℕ
with_comma first second =
    if length first == 0 then second else if length second == 0 then first else first ++ (codes ", " ++ second)

-- how many messages were left out for each reason
abbrev pub left_out_text : LeftOut → List ℕ
left_out_text left =
    with_comma (with_comma (with_comma (left_out_reason left.obstructed (codes " obstructed"))
    (left_out_reason left.too_large (codes " too large"))) (left_out_reason left.past_limit (codes " past the limit")))
    (left_out_reason left.repeated (codes " with a repeated unique-id"))

-- the line on messages that were left out although they aren't known, if there are any
abbrev pub left_out_line : Settings → LeftOut → List ℕ
left_out_line settings left =
    if length (left_out_text left) == 0 then [] else reason_line settings (codes "left out: " ++ left_out_text left)

-- this is said of them: such a line, or that memory ran out for it, if reasons are asked for; a preview tells of each
-- message
abbrev pub SaysLeftOut : Settings → Bool → Told → List ℕ → Type 0
SaysLeftOut settings true (Done report) line =
    (line ≡ left_out_line settings report.left_out) ⊎ (line ≡ codes "getmail: out of memory\n")
SaysLeftOut settings asked told line = line ≡ []

-- a session was cut because memory ran out, which the line of its fault says
abbrev pub lacks_memory : Outcome → Bool
lacks_memory (Cut OutOfMemory) = true
lacks_memory outcome = false

-- the line of a text that wasn't written to standard output; want of memory is told once
abbrev pub unwritten_line : Outcome → Option OutputRefusal → List ℕ
unwritten_line outcome None = []
unwritten_line outcome (Some NoMemory) = if lacks_memory outcome then [] else codes "getmail: out of memory\n"
unwritten_line outcome (Some Refused) = codes "getmail: cannot write standard output\n"

-- ---- what is written at a session's end

-- the reasons of an outcome, from what was noted of it; or none, since memory ran out for them: then nothing more is
-- written
abbrev pub SaysReasons : Settings → Bool → Outcome → List ℕ → List ℕ → Option OutputRefusal → List ℕ → Type 0
SaysReasons settings says_why outcome destination seen refusal reasons =
    ((found : Findings) × FindsOn says_why outcome destination seen found
    × (reasons ≡ reasons_said settings says_why outcome found))
    ⊎ ((refusal ≢ None) × (reasons ≡ []))

-- the line of the fault that cut a session, if one did, and its reasons were written
pub record TellsCut {E : Type 0} (contents : E → Option (List ℕ)) (settings : Settings) (destination seen : List ℕ)
    (outcome : Outcome) (old new : Errors E) : Type 0 where
  pub reasons : List ℕ
  pub are_reasons : SaysReasons settings old.says_why outcome destination seen new.err.refusal reasons
  pub puts : Puts contents old.err (outcome_line outcome ++ reasons) new.err
  pub same : new.says_why ≡ old.says_why

-- the exit status: 0 if the session ended and all was written
abbrev pub status_when : Outcome → Option OutputRefusal → ℕ
status_when Ended None = 0
status_when Ended (Some why) = 1
status_when (Cut fault) why = 1

-- to `err` were written the line of the fault that cut a session with its reasons, the line of a text that wasn't
-- written, and the line on messages that were left out
pub record TellsErrors {E : Type 0} (contents : E → Option (List ℕ)) (settings : Settings) (destination seen : List ℕ)
    (told : Told) (refusal : Option OutputRefusal) (old : Errors E) (fetched : Fetched) (new : Errors E)
    : Type 0 where
  pub idle : fetched.is_idle ≡ is_idle told
  pub unknown : fetched.unknown ≡ unknown_in told
  pub status : fetched.status ≡ status_when (told_outcome told) refusal
  pub reasons : List ℕ
  pub are_reasons : SaysReasons settings old.says_why (told_outcome told) destination seen new.err.refusal reasons
  pub left_out : List ℕ
  pub is_left_out : SaysLeftOut settings old.says_why told left_out
  pub said : Puts contents old.err
      (((outcome_line (told_outcome told) ++ reasons) ++ unwritten_line (told_outcome told) refusal) ++ left_out)
      new.err

-- what a session said was written to `out`, and nothing else; and the rest to `err`
pub record TellsAll {O E : Type 0} (out_contents : O → Option (List ℕ)) (err_contents : E → Option (List ℕ))
    (explains : Bool) (settings : Settings) (destination seen : List ℕ) (IsPlan : Report → List Step → Type 0)
    (told : Told) (out : Output O) (old : Errors E) (fetched : Fetched) (out' : Output O) (new : Errors E)
    : Type 0 where
  pub reported : Reported out_contents explains settings IsPlan told out out'
  pub errors : TellsErrors err_contents settings destination seen told out'.refusal old fetched new

-- the report of a session goes to a new output, and the line of the fault that cut it, if one did, to another one;
-- and this is the exit status
pub record TellsPlainly {O E : Type 0} (out_contents : O → Option (List ℕ)) (err_contents : E → Option (List ℕ))
    (settings : Settings) (report : Report) (out : O) (err : E) (status : ℕ) : Type 0 where
  pub out' : Output O
  pub reported : Puts out_contents (record { writer = out; refusal = None }) (report_text report settings) out'
  pub err' : Output E
  pub cut : Puts err_contents (record { writer = err; refusal = None }) (outcome_line report.outcome) err'
  pub status_is : status ≡ status_when report.outcome out'.refusal

-- how many messages a session left out, of those that an unattended run counts
abbrev pub counts_of : LeftOut → Counts
counts_of left = record { past_limit = left.past_limit; repeated = left.repeated }
