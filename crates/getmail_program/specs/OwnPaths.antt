-- What stops a run of the superuser's.
use Rattle.std.specs.Prelude.{◌≡◌, ◌⊎◌, ◌++◌, ℕ, Bool, true, false, List, [], None, Option, Some, codes}
use Rattle.file_reading.specs.declared.ReadFile.{Ghosts as ReadGhosts}
use Rattle.rc_file.specs.declared.settings.Settings.{Settings}
use Rattle.safe_path.specs.{
  Check.{AreAllSafe, IsFirstRefused},
  declared.{looks.Looks.{Ghosts}, rule.{Flaw.{Flaw}, Named.{Named}}},
}
use Rattle.getmail_setup.specs.{
  Failures.{TellsFailure, cause_line},
  Output.Puts,
  declared.{errors.Errors.{Errors}, failure.Failure.TheVariants.{NoMemory}},
}

-- what is said to somebody who doesn't wait: that each run says it
abbrev pub each_run_line : Option Settings → Bool → List ℕ
each_run_line account false = []
each_run_line account true = cause_line account []
    (codes "nothing is read or written in the folder of the record, so each unattended run tells this")

-- the lines of a path that is refused: what is wrong there, and that
abbrev pub refused_lines : Option Settings → Bool → List ℕ → List ℕ
refused_lines account is_unattended text = cause_line account [] text ++ each_run_line account is_unattended

abbrev pub TellsRefused : {E : Type 0} → (E → Option (List ℕ)) → Option Settings → Bool → Errors E → Errors E → Type 0
TellsRefused contents account is_unattended old new =
    (text : List ℕ) × Puts contents old.err (refused_lines account is_unattended text) new.err

-- some paths are all safe, and nothing was said; or one is refused, behind others that are safe, and that was said; or
-- memory ran out, and that was
abbrev pub StopsAt : {L E : Type 0} → Ghosts L → ReadGhosts L → (E → Option (List ℕ)) → L → List Named → Option Settings
    → Bool → Errors E → Errors E → Option ℕ → Type 0
StopsAt told read contents looks things account is_unattended old new None =
    AreAllSafe told read looks things × (new ≡ old)
StopsAt told read contents looks things account is_unattended old new (Some status) = (status ≡ 2)
    × (((path : List ℕ) × (flaw : Flaw) × IsFirstRefused told read looks things path flaw
    × TellsRefused contents account is_unattended old new)
    ⊎ TellsFailure contents None NoMemory old new)
