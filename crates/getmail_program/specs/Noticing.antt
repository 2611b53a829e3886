-- What a run tells beside its fault, line by line.
use Rattle.std.specs.{
  Prelude.{◌≡◌, ℕ, Bool, true, false, List, [], ◌∷◌, ◌++◌, Option, None, Some, Vec, codes, option_map},
  Option.option_copied,
}
use Rattle.rc_file.specs.declared.settings.Settings.{Settings}
use Rattle.getmail_setup.specs.{
  Failures.cause_line,
  declared.journal.Subject.{Subject, TheVariants.{Notice, Lasting}},
}
use Rattle.getmail_program.specs.declared.errand.Noticed.{Noticed}

-- a line, and what it is about
pub record NoticeLine : Type 0 where
  pub subject : Subject
  pub text : List ℕ

-- the lines were taken one by one, each as a part of its own
abbrev pub TakesEach : {T : Type 0} → (T → Subject → List ℕ → T → Type 0) → List NoticeLine → T → T → Type 0
TakesEach took [] old new = new ≡ old
TakesEach {T} took (line ∷ lines) old new =
    (mid : T) × took old line.subject line.text mid × TakesEach took lines mid new

abbrev pub line_about : Settings → Subject → List ℕ → List ℕ → NoticeLine
line_about settings subject words reason =
    record { subject = subject; text = cause_line (Some settings) words reason }

-- something is kept of what was cut off from an mboxrd file
abbrev pub rests_lines : Settings → Bool → List ℕ → List NoticeLine
rests_lines settings true rests =
    line_about settings Notice (codes "what was cut off from the mbox file is kept in ") rests ∷ []
rests_lines settings false rests = []

-- what bears the name of a message and can't be opened: that lasts
abbrev pub obstruction_lines : {Z : Type 0} → Settings → List (Vec ℕ Z) → List NoticeLine
obstruction_lines settings [] = []
obstruction_lines settings (obstruction ∷ others) =
    line_about settings Lasting [] obstruction.items ∷ obstruction_lines settings others

-- why the store refused the run
abbrev pub refusal_lines : Settings → Option (List ℕ) → List NoticeLine
refusal_lines settings None = []
refusal_lines settings (Some reason) = line_about settings Notice [] reason ∷ []

-- a folder's names weren't flushed, since its file system flushes no folders
abbrev pub unflushed_lines : Settings → Option (List ℕ) → List NoticeLine
unflushed_lines settings None = []
unflushed_lines settings (Some path) =
    line_about settings Notice path (codes ": its file system flushes no folders") ∷ []

-- the server may have given new ids to all that it listed, and may do so for each session
abbrev pub new_ids_lines : Settings → Bool → List NoticeLine
new_ids_lines settings false = []
new_ids_lines settings true = line_about settings Lasting (codes "warning: ") (codes
    "none of the listed messages was in the record, others were: if their ids are new, all mail comes again") ∷ []

-- all that was noticed of a run's devices
abbrev pub noticed_lines : Settings → List ℕ → Noticed → List NoticeLine
noticed_lines settings rests noticed = rests_lines settings noticed.keeps_rests rests
    ++ (obstruction_lines settings noticed.obstructions.now
    ++ (refusal_lines settings (option_map (λ reason. reason.items) noticed.refusal)
    ++ (unflushed_lines settings (option_copied noticed.unflushed) ++ new_ids_lines settings noticed.has_new_ids)))
