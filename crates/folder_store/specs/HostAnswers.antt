-- What a device of the machine's file system makes of an answer of the system.
use Rattle.std.specs.{
  Prelude.{◌≡◌, ◌≢◌, ◌⊎◌, ◌-◌, ℕ, ℤ, pos, negsuc, Bool, true, false, Result, Ok, Err},
  Fs.{IsDir, IsFile, file_type},
  IoError.error_kind,
  declared.{
    fs.attrs.Metadata.Metadata,
    io.{
      Error.Error,
      ErrorKind.{
        ErrorKind,
        TheVariants.{
          CrossesDevices,
          FilesystemLoop,
          InvalidFilename,
          NotADirectory,
          NotFound,
          PermissionDenied,
          StaleNetworkFileHandle,
          TooManyLinks,
          Unsupported,
        },
      },
    },
  },
}
use Rattle.system_calls.specs.declared.refusal.Denial.{Denial}
use Rattle.folder_store.specs.{
  Calls.{IsAbsent, flushes_none},
  declared.calls.{FileStat.FileStat, FileKind.{FileKind, TheVariants.{File, Folder, Other}}},
}

-- what a path leads to, by what stat(2) reports
abbrev pub IsKindOf : Metadata → FileKind → Type 0
IsKindOf found File = IsFile (file_type found)
IsKindOf found Folder = IsDir (file_type found)
IsKindOf found Other = (IsFile (file_type found) → ⊥) × (IsDir (file_type found) → ⊥)

-- it is a folder
abbrev pub IsFolder : FileStat → Type 0
IsFolder stat = stat.kind ≡ Folder

-- the seconds of a time since 1970. One before that counts as one that never comes, another one for each second
abbrev pub seconds_at : ℤ → ℕ
seconds_at (pos seconds) = seconds
seconds_at (negsuc before) = 18_446_744_073_709_551_614 - before

-- EPERM, EOPNOTSUPP, EXDEV, EMLINK: a file can't be given a second name, and perhaps another one
abbrev pub refuses_links : ErrorKind → Bool
refuses_links PermissionDenied = true
refuses_links Unsupported = true
refuses_links CrossesDevices = true
refuses_links TooManyLinks = true
refuses_links _ = false

-- EACCES or EPERM, ELOOP, ENOTDIR, ENAMETOOLONG: a file can't be opened because of what its name stands
-- for, or of its rights
abbrev pub tells_odd : ErrorKind → Bool
tells_odd PermissionDenied = true
tells_odd FilesystemLoop = true
tells_odd NotADirectory = true
tells_odd InvalidFilename = true
tells_odd _ = false

-- whether something is there, by the answer to a call for it: ENOENT says that nothing is
abbrev pub TellsThere : {T : Type 0} → Result T Denial → Result Bool Denial → Type 0
TellsThere (Ok found) there = there ≡ Ok true
TellsThere (Err d) (Ok is) = (is ≡ false) × IsAbsent d
TellsThere (Err d) (Err e) = (e ≡ d) × (IsAbsent d → ⊥)

-- what is told of a file that was opened: the system's answer, but ESTALE in place of ENOENT
abbrev pub TellsOpened : {T : Type 0} → Result T Error → Result T Denial → Type 0
TellsOpened (Ok value) told = told ≡ Ok value
TellsOpened (Err error) (Ok value) = ⊥
TellsOpened (Err error) (Err d) = ((error_kind error ≢ NotFound) × (d.error ≡ error))
    ⊎ ((error_kind error ≡ NotFound) × (error_kind d.error ≡ StaleNetworkFileHandle))

-- whether the names of a folder were flushed, by the answer to fsync(2)
abbrev pub TellsFlush : {T : Type 0} → Result T Denial → Result Bool Denial → Type 0
TellsFlush (Ok done) flushed = flushed ≡ Ok true
TellsFlush (Err d) (Ok is) = (is ≡ false) × (flushes_none (error_kind d.error) ≡ true)
TellsFlush (Err d) (Err e) = (e ≡ d) × (flushes_none (error_kind d.error) ≡ false)
