-- What may be in the place of the file that is locked.
use Rattle.std.specs.{
  Prelude.{◌≡◌, ◌≢◌, ℕ, List, Result, Ok, Err},
  Fs.{IsFile, file_type},
  IoError.error_kind,
  declared.{fs.attrs.Metadata.Metadata, io.ErrorKind.TheVariants.{NotFound, Other}},
}
use Rattle.system_calls.specs.{Denials.IsAbout, declared.refusal.Denial.{Denial}}

-- by what was found in its place a lock's file may be opened: nothing, or a regular file
abbrev pub MayBeOpened : Result Metadata Denial → Type 0
MayBeOpened (Ok found) = IsFile (file_type found)
MayBeOpened (Err denial) = error_kind denial.error ≡ NotFound

-- what else was found keeps it from being opened, with this reason
abbrev pub Hinders : List ℕ → Result Metadata Denial → Denial → Type 0
Hinders path (Ok found) denial =
    (IsFile (file_type found) → ⊥) × (error_kind denial.error ≡ Other) × IsAbout path denial
Hinders path (Err fault) denial = (error_kind fault.error ≢ NotFound) × (denial ≡ fault)
