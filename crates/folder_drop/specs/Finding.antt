-- Where a message's file is now.
use Rattle.std.specs.{
  IoError.error_kind,
  Prelude.{◌≡◌, ◌<◌, ◌⊎◌, ℕ, IfSome, true, false, List, Option, None, Some, Result, Ok, Err, length, string_bytes},
  List.HoldsAt,
  declared.io.{ErrorKind.TheVariants.NotFound, Error.Error},
}
use Rattle.mail_terms.specs.MaildirName.{base}
use Rattle.pop3_server.specs.{Maildrop.max_size, Size.{capped, size_of}}
use Rattle.folder_drop.specs.{
  declared.{
    listed_file.ListedFile.ListedFile,
    mail_files.{FileWay.FileWay, Found.Found},
    maildir_names.{FileNumber.FileNumber, Folder.Folder, PlacedFile.PlacedFile, Stamp.Stamp},
    seen_files.SeenFiles.SeenFiles,
  },
  Places.IsWayTo,
  RealMaildir.listed_place,
  SeenFiles.{NoneHasBase, those_seen},
}

-- what bears a name was told; NotFound: nothing does
abbrev pub LooksUp : (Option Found → Type 0) → Result Found Error → Type 0
LooksUp found (Ok what) = found (Some what)
LooksUp found (Err error) = error_kind error ≡ NotFound → found None

-- this was found to bear a name in a place; or nothing did there, and this bears a name with the same base
pub record IsFoundNow (found : FileWay → Option Found → Type 0) (place : Folder × List ℕ) (now : FileWay × Found)
    : Type 0 where
  pub based : base (string_bytes now.0.name) ≡ base place.1
  pub bears : found now.0 (Some now.1)
  pub first : IsWayTo now.0 place ⊎ ((way : FileWay) × IsWayTo way place × found way None)

-- no file of the last listing has this base
abbrev pub IsGone : (List PlacedFile → Type 0) → SeenFiles → List ℕ → Type 0
IsGone listed seen name = listed (those_seen seen.files) × NoneHasBase name (those_seen seen.files)

-- the length and time of modification of a regular file that was found; or what was found isn't one, or nothing has the
-- base
abbrev pub TellsStamp : (FileWay → Option Found → Type 0) → (List PlacedFile → Type 0) → SeenFiles → Folder × List ℕ
    → Option Stamp → Type 0
TellsStamp found listed seen place (Some stamp) = (now : FileWay × Found) × IsFoundNow found place now
    × (now.1.is_regular ≡ true) × (now.1.stamp ≡ stamp)
TellsStamp found listed seen place None = ((now : FileWay × Found) × IsFoundNow found place now
    × (now.1.is_regular ≡ false)) ⊎ IsGone listed seen (base place.1)

-- a regular file was found, and this is that file, opened
abbrev pub IsOpenNow : {File : Type 0} → (FileWay → Option Found → Type 0) → (FileWay → FileNumber → File → Type 0)
    → Folder × List ℕ → File → Type 0
IsOpenNow found opened place file = (now : FileWay × Found) × IsFoundNow found place now
    × (now.1.is_regular ≡ true) × opened now.0 now.1.stamp.number file

-- the same of the file of a listed message
abbrev pub IsOpenAt : {File : Type 0} → (FileWay → Option Found → Type 0) → (FileWay → FileNumber → File → Type 0)
    → List ListedFile → ℕ → File → Type 0
IsOpenAt found opened listing i file = (i < length listing)
    × HoldsAt (λ listed. IsOpenNow found opened (listed_place listed) file) listing i

-- what such a file was read to has this size as a message
abbrev pub IsSizeNow : {File : Type 0} → (File → Option (List ℕ)) → (FileWay → Option Found → Type 0)
    → (FileWay → FileNumber → File → Type 0) → Folder × List ℕ → ℕ → Type 0
IsSizeNow {File} remaining found opened place size = (file : File) × IsOpenNow found opened place file
    × IfSome (remaining file) (λ text. size ≡ capped (size_of text))

-- a file isn't listed: its length, or the size that is known or was counted, is above the limit, or it is gone
abbrev pub IsLeftOut : {File : Type 0} → (File → Option (List ℕ)) → (FileWay → Option Found → Type 0)
    → (FileWay → FileNumber → File → Type 0) → (List PlacedFile → Type 0) → SeenFiles → Folder × List ℕ
    → Stamp × Option ℕ → Type 0
IsLeftOut remaining found opened listed seen place counted = (max_size < counted.0.length)
    ⊎ ((size : ℕ) × (max_size < size) × ((counted.1 ≡ Some size) ⊎ IsSizeNow remaining found opened place size))
    ⊎ IsGone listed seen (base place.1)
