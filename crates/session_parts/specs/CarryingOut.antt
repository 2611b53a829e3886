-- A listing's steps prepared and carried out.
use Rattle.std.specs.Prelude.{◌≡◌, ◌⊎◌, ℕ, All, List, [], ◌∷◌, ◌++◌, None, Result, Ok, Err}
use Rattle.pop3_wire.specs.Place.{Place}
use Rattle.mail_terms.specs.Listing.{Item}
use Rattle.fetch_record.specs.Record.{Row, RecordState, none_open}
use Rattle.fetch_rules.specs.Plan.{IsQuiet, planned}
use Rattle.rc_file.specs.declared.settings.Settings.{Settings}
use Rattle.mail_store.specs.FlatFile.{Stored}
use Rattle.pop3_client.specs.Turns.{quit}
use Rattle.session_parts.specs.{
  declared.{report.{ReportLine.ReportLine, Skips.Skips}, fault.Cut.Cut},
  Task.{Task, says, tasks_planned},
  Readiness.{AreDurable, IsFileKept, SettlesStore, Unready, merged_in},
  Record.{Keeps, Steady},
  Target.{Target, Stores, held_flags, odd_in},
  Report.{none_skipped, skips_planned},
  Scene.{Scene, scene, Does},
}

-- what a session does once its record is ready: the planned tasks, then QUIT
abbrev pub tasks_ahead : Settings → Target → List Item → ℕ → Stores → List Row → List Task
tasks_ahead settings target items now store rows = tasks_planned
    (planned settings (odd_in target store) rows items now) items
    (held_flags target store items) ++ says quit ∷ []

-- the record was read, merged with the listing and saved. Nothing is to be fetched or deleted and the record's file
-- was kept, or what was found is durable
pub record Prepared (settings : Settings) (target : Target) (items : List Item) (now : ℕ) (place : Place)
    (store : Stores)
    (file : Stored) (lines : List ReportLine) (mid : Scene) : Type 0 where
  pub was : RecordState
  pub stood : Keeps file.content was
  pub rows : mid.rows ≡ merged_in target store was items now
  pub durable : (All IsQuiet (planned settings (odd_in target store) mid.rows items now)
      × IsFileKept mid.rows file mid.file) ⊎ AreDurable target was.rows items store
  pub saved : Steady mid.file.content (none_open mid.rows)
  pub file_count : mid.file.failures ≡ file.failures
  pub place_is : mid.place ≡ place
  pub settles : SettlesStore target was items store mid.store
  pub lines_are : mid.lines ≡ lines

-- it wasn't: nothing was said
pub record Unprepared (target : Target) (items : List Item) (now : ℕ) (place : Place) (store : Stores)
    (file : Stored) (lines : List ReportLine) (cut : Cut) (new : Scene) : Type 0 where
  pub none : cut.rest ≡ None
  pub unready : Unready target items now store file cut.fault new.store new.file
  pub place_is : new.place ≡ place
  pub lines_are : new.lines ≡ lines

-- what was planned was done, or as much as went well
pub record Carried (settings : Settings) (target : Target) (items : List Item) (now : ℕ) (place : Place)
    (store : Stores) (file : Stored) (lines : List ReportLine) (result : Result (Unit {0}) Cut) (new : Scene)
    (skipped : Skips) : Type 0 where
  pub mid : Scene
  pub prepared : Prepared settings target items now place store file lines mid
  pub does : Does target (tasks_ahead settings target items now store mid.rows) mid result new
  pub skips : skipped ≡ skips_planned settings (odd_in target store) mid.rows items now

-- the listing's steps were prepared and carried out, or as far as went well
abbrev pub Carries : Settings → Target → List Item → ℕ → Place → Stores → Stored → List ReportLine
    → Result (Unit {0}) Cut → Place → Stores → Stored → List ReportLine → Skips → Type 0
Carries settings target items now place store file lines (Ok done) place' store' file' lines' skipped =
    (rows : List Row)
    × Carried settings target items now place store file lines (Ok done) (scene place' store' file' rows lines') skipped
Carries settings target items now place store file lines (Err cut) place' store' file' lines' skipped =
    (rows : List Row)
    × (((skipped ≡ none_skipped)
    × Unprepared target items now place store file lines cut (scene place' store' file' rows lines'))
    ⊎ Carried settings target items now place store file lines (Err cut)
    (scene place' store' file' rows lines') skipped)
