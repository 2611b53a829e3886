-- A run over devices that are made for it.
use Rattle.std.specs.{
  Prelude.{◌≡◌, ◌⊎◌, ℕ, Bool, true, List, None, Option, Some, Result, Ok, Err, IfOk, String, option_map},
  Borrow.Bor,
  Global.Global,
  String.string_bytes,
  declared.{alloc.AllocError.AllocError, time.SystemTime.SystemTime},
}
use Rattle.pop3_wire.specs.declared.wire.Wire.{Ghosts as WireGhosts}
use Rattle.mail_store.specs.declared.{
  maildir.disk.MaildirDisk.Ghosts as DiskGhosts,
  file.flat_file.FlatFile.Ghosts as FileGhosts,
}
use Rattle.rc_file.specs.declared.settings.{Dest.Dest, Settings.Settings}
use Rattle.session_parts.specs.{
  Account.{Holding, IsSameAccount},
  Hearing.IsPlanOf,
  declared.{work.Store.Store, report.Report.Report},
}
use Rattle.fetch_rules.specs.declared.plans.Step.{Step}
use Rattle.getmail_setup.specs.{
  Clock.second_of,
  Failures.{TellsFailure, status_of},
  InPlace.IsOtherList,
  declared.{errors.Errors.Errors, failure.Failure.{Failure, TheVariants.{NoMemory, OtherList}}},
  declared.output.{Output.Output, OutputRefusal.OutputRefusal},
  declared.setup.{Paths.Paths, Setup.Setup},
}
use Rattle.getmail_program.specs.{
  Holding.{HoldsSession, holding_of},
  Telling.{TellsAll, told_outcome, status_when},
  declared.{ending.Fetched.Fetched, told.Told.Told},
}

-- with a store and a file of the record that were made at these paths, a session of the settings was held at the second
-- of this time, or it was only previewed
pub record FetchesAt {W D F : Type 0} (link : WireGhosts W) (disk : DiskGhosts D) (file : FileGhosts F)
    (made_store : Dest → List ℕ → List ℕ → Store D F → Type 0) (made_record : List ℕ → F → Type 0)
    (settings : Settings) (paths : Paths) (pretends : Bool)
    (time : Option SystemTime) (wire : W) (told : Told) : Type 0 where
  pub store : Store D F
  pub store_made : made_store settings.dest (string_bytes paths.destination) (string_bytes paths.rests) store
  pub seen_file : F
  pub record_made : made_record (string_bytes paths.record) seen_file
  pub left : Holding D F
  pub wire' : W
  pub holds : HoldsSession link disk file pretends (second_of time) (holding_of settings store seen_file) wire told left
      wire'
  pub same : IsSameAccount (holding_of settings store seen_file) left

-- what a session said was written, and this is its exit status
pub record TellsOf {O E : Type 0} (out_contents : O → Option (List ℕ)) (err_contents : E → Option (List ℕ))
    (settings : Settings) (paths : Paths) (IsPlan : Report → List Step → Type 0) (told : Told) (out : Output O)
    (errors : Errors E) (status : ℕ) (out' : Output O) : Type 0 where
  pub fetched : Fetched
  pub errors' : Errors E
  pub tells : TellsAll out_contents err_contents errors.explains settings (string_bytes paths.destination)
      (string_bytes paths.record) IsPlan told out errors fetched out' errors'
  pub status_is : status ≡ fetched.status

-- a session of an account over a link was held, or only previewed; what it said was written, and this came of it
pub record FetchesInto {W D F O E : Type 0} (link : WireGhosts W) (disk : DiskGhosts D) (file : FileGhosts F)
    (out_contents : O → Option (List ℕ)) (err_contents : E → Option (List ℕ)) (pretends explains : Bool) (now : ℕ)
    (destination seen : List ℕ) (old : Holding D F) (wire : W) (told : Told) (new : Holding D F) (wire' : W)
    (out : Output O) (errors : Errors E) (fetched : Fetched) (out' : Output O) (errors' : Errors E) : Type 0 where
  pub holds : HoldsSession link disk file pretends now old wire told new wire'
  pub tells : TellsAll out_contents err_contents explains old.settings destination seen
      (IsPlanOf link disk file now old wire new wire') told out errors fetched out' errors'

-- a session of a setup was held over some link, or only previewed; the status is 0 if it ended and all was written
pub record HoldsSetup {W D F : Type 0} (link : WireGhosts W) (disk : DiskGhosts D) (file : FileGhosts F)
    (setup : Setup) (status : ℕ) : Type 0 where
  pub time : Option SystemTime
  pub wire : W
  pub told : Told
  pub fetches : FetchesAt link disk file (λ _ _ _ _. Unit {0}) (λ _ _. Unit {0}) setup.settings
      setup.paths setup.pretends time wire told
  pub refusal : Option OutputRefusal
  pub status_is : status ≡ status_when (told_outcome told) refusal

-- there is none for a failure, which the status tells; or an unattended run leaves the account to another one that is
-- at work
abbrev pub EndsBefore : Setup → Bool → ℕ → Type 0
EndsBefore setup is_unattended status =
    ((is_unattended ≡ true) × (status ≡ 0)) ⊎ ((failure : Failure) × (status ≡ status_of failure))

-- it was held, or there is none
abbrev pub Runs : {W D F : Type 0} → WireGhosts W → DiskGhosts D → FileGhosts F → Setup → Bool → ℕ → Type 0
Runs link disk file setup is_unattended status =
    EndsBefore setup is_unattended status ⊎ HoldsSetup link disk file setup status

-- a list was found: that was told, with its path and the record's
pub record TellsList {E : Type 0} (contents : E → Option (List ℕ)) (setup : Setup) (list : List ℕ)
    (old new : Errors E) : Type 0 where
  pub path : Bor (List ℕ)
  pub is_path : path.now ≡ list
  pub record_path : Bor (List ℕ)
  pub is_record : record_path.now ≡ string_bytes setup.paths.record
  pub tells : TellsFailure contents (Some setup.settings) (OtherList path record_path) old new

-- by what was found a run is stopped, and that was told: exactly if it is a list, or if memory ran out
abbrev pub StopsBy : {E : Type 0} → (E → Option (List ℕ)) → Setup → Result (Option (String Global)) AllocError
    → Errors E → Errors E → Option ℕ → Type 0
StopsBy contents setup (Ok None) old new status = (status ≡ None) × (new ≡ old)
StopsBy contents setup (Ok (Some list)) old new status =
    (status ≡ Some 2) × TellsList contents setup (string_bytes list) old new
StopsBy contents setup (Err error) old new status = (status ≡ Some 2) × TellsFailure contents None NoMemory old new

-- a run is stopped exactly if there is a list of what getmail6 fetched in whose place it is the first one; or if memory
-- ran out for the answer
abbrev pub StopsInPlace : {E : Type 0} → (E → Option (List ℕ)) → (List ℕ → Bool → Type 0) → (List ℕ → Bool → Type 0)
    → (List ℕ → List (List ℕ) → Type 0) → Setup → Errors E → Errors E → Option ℕ → Type 0
StopsInPlace contents said said_free gave setup old new status = (found : Result (Option (String Global)) AllocError)
    × IfOk found (λ list. IsOtherList said said_free gave setup (option_map string_bytes list))
    × StopsBy contents setup found old new status
