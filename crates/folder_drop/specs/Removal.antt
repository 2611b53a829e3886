-- Which files are removed with a message: all with its base, if the listed file is one of them and each is that file or
-- has its octets; else none.
use Rattle.std.specs.{
  Prelude.{◌≡◌, ◌≢◌, ◌⊎◌, ◌<◌, ◌∷◌, ℕ, Bool, true, false, List, [], Option, None, Some, length},
  Prelude.{IfNone, IfOk, Result},
  String.string_bytes,
  List.{All, Contains, HoldsAt},
}
use Rattle.mail_terms.specs.MaildirName.{base}
use Rattle.folder_drop.specs.{
  declared.{
    listed_file.ListedFile.ListedFile,
    mail_files.{FileWay.FileWay, Found.Found},
    maildir_names.{FileNumber.FileNumber, PlacedFile.PlacedFile, Stamp.Stamp},
    removal.{Namesake.Namesake, TwoMessages.TwoMessages},
    seen_files.SeenFiles.SeenFiles,
  },
  MailFiles.{Has, LacksSome, DropFile, file_place},
  MaildirMail.is_namesake,
  Places.{IsWayTo, folder_and_name},
  RealMaildir.listed_name,
  SameOctets.TellsSame,
  SeenFiles.{HaveBase, those_seen},
}

-- these were seen before, or listed since
abbrev pub WereSeen : (List PlacedFile → Type 0) → SeenFiles → List PlacedFile → Type 0
WereSeen listed seen files = (files ≡ those_seen seen.files) ⊎ listed files

-- these were seen since the removals of a session began, or listed since
abbrev pub WereSeenSince : (List PlacedFile → Type 0) → SeenFiles → List PlacedFile → Type 0
WereSeenSince listed seen files = ((seen.are_removed ≡ true) × (files ≡ those_seen seen.files)) ⊎ listed files

-- the file is the one that was listed with this number, length and time of modification, wherever it is now
abbrev pub HasStamp : Stamp → Namesake → Type 0
HasStamp stamp file = file.stamp ≡ stamp

-- the file is in the place where the message was listed
abbrev pub IsPlaceOf : ListedFile → PlacedFile → Type 0
IsPlaceOf listed file = (listed.folder ≡ file.folder) × (listed_name listed ≡ string_bytes file.name)

-- a file that was seen with a message's base was found there: a regular file, or else nothing that may be removed, not
-- in the message's own place
abbrev pub IsNamesake : (FileWay → Option Found → Type 0) → ListedFile → PlacedFile → Option Namesake → Type 0
IsNamesake found listed seen (Some file) = IsWayTo file.file (folder_and_name seen)
    × ((what : Found) × found file.file (Some what) × (what.is_regular ≡ true) × (file.stamp ≡ what.stamp))
IsNamesake found listed seen None = (way : FileWay) × (other : Found) × IsWayTo way (folder_and_name seen)
    × found way (Some other) × (other.is_regular ≡ false) × (IsPlaceOf listed seen → ⊥)

-- of the files that were seen with a message's base, these are the regular ones, as they were found: each of these is
-- one of them, and each of them is there or is nothing that may be removed
pub record AreNamesakes (found : FileWay → Option Found → Type 0) (listed : ListedFile) (seen : List PlacedFile)
    (files : List Namesake) : Type 0 where
  pub only : All (λ (file : Namesake). (from : PlacedFile) × Contains seen from
      × IsNamesake found listed from (Some file)) files
  pub each : All (λ (from : PlacedFile). IsNamesake found listed from None
      ⊎ ((file : Namesake) × Contains files file × IsNamesake found listed from (Some file))) seen

abbrev pub if_any : Option Namesake → List Namesake
if_any None = []
if_any (Some file) = file ∷ []

-- the file was opened, and has these octets left
abbrev pub WasRead : {File : Type 0} → (File → Option (List ℕ)) → (FileWay → FileNumber → File → Type 0) → Namesake
    → Option (List ℕ) → Type 0
WasRead {File} remaining opened file octets = (handle : File) × opened file.file file.stamp.number handle
    × (remaining handle ≡ octets)

-- both files were read, and this is whether their octets are the same
abbrev pub WereCompared : {File : Type 0} → (File → Option (List ℕ)) → (FileWay → FileNumber → File → Type 0) → Namesake
    → Namesake → Bool → Type 0
WereCompared remaining opened listed file same = (own : Option (List ℕ)) × (other : Option (List ℕ))
    × WasRead remaining opened file own × WasRead remaining opened listed other × TellsSame own other same

-- the file is the listed one under some name, or was read and has its octets
abbrev pub MayGo : {File : Type 0} → (File → Option (List ℕ)) → (FileWay → FileNumber → File → Type 0) → Namesake
    → Namesake → Type 0
MayGo remaining opened listed file =
    (file.stamp.number ≡ listed.stamp.number) ⊎ WereCompared remaining opened listed file true

-- the file is another one, and was read and doesn't have its octets
abbrev pub IsOther : {File : Type 0} → (File → Option (List ℕ)) → (FileWay → FileNumber → File → Type 0) → Namesake
    → Namesake → Type 0
IsOther remaining opened listed file =
    (file.stamp.number ≢ listed.stamp.number) × WereCompared remaining opened listed file false

-- all files go with the listed one, and are removed; or one of them is another message, which is told
abbrev pub RemovesWith : {File : Type 0} → (File → Option (List ℕ)) → (FileWay → FileNumber → File → Type 0)
    → (FileWay → FileNumber → Type 0) → Namesake → List Namesake → Option TwoMessages → Type 0
RemovesWith remaining opened removed listed files None =
    All (MayGo remaining opened listed) files × All (λ (file : Namesake). removed file.file file.stamp.number) files
RemovesWith remaining opened removed listed files (Some two) = (string_bytes two.listed ≡ string_bytes listed.file.path)
    × ((other : Namesake) × Contains files other × IsOther remaining opened listed other
    × (string_bytes two.other ≡ string_bytes other.file.path))

-- if the listed file isn't there, nothing is removed: one of the files is told, if there is any
abbrev pub TellsInstead : List Namesake → Option TwoMessages → Type 0
TellsInstead files None = files ≡ []
TellsInstead files (Some two) = (other : Namesake) × Contains files other
    × (string_bytes two.other ≡ string_bytes other.file.path)

-- the files that were seen with a message's base were looked at; if the listed one is among them, all of them went with
-- it, or one is another message; else one of them is told
pub record RemovesSeen {File : Type 0} (remaining : File → Option (List ℕ)) (found : FileWay → Option Found → Type 0)
    (opened : FileWay → FileNumber → File → Type 0) (removed : FileWay → FileNumber → Type 0) (listed : ListedFile)
    (seen : List PlacedFile) (told : Option TwoMessages) : Type 0 where
  pub files : List Namesake
  pub are : AreNamesakes found listed seen files
  pub gone : ((i : ℕ) × (i < length files) × HoldsAt (HasStamp listed.stamp) files i
      × HoldsAt (λ own. RemovesWith remaining opened removed own files told) files i)
      ⊎ (All (λ (file : Namesake). file.stamp ≢ listed.stamp) files × TellsInstead files told)

-- a listed message is removed, or isn't, with those of the files of a look that have its base
pub record RemovesMessage {File : Type 0} (remaining : File → Option (List ℕ)) (found : FileWay → Option Found → Type 0)
    (opened : FileWay → FileNumber → File → Type 0) (removed : FileWay → FileNumber → Type 0)
    (were_seen : List PlacedFile → Type 0) (listed : ListedFile) (told : Option TwoMessages) : Type 0 where
  pub from : List PlacedFile
  pub were : were_seen from
  pub these : List PlacedFile
  pub have : HaveBase (base (listed_name listed)) from these
  pub removes : RemovesSeen remaining found opened removed listed these told

-- ---- what goes, if only this server changes the Maildir

-- each of these files was seen
abbrev pub SeesAll : List DropFile → List PlacedFile → Type 0
SeesAll files seen = All (λ (file : DropFile). (from : PlacedFile) × Contains seen from
    × (folder_and_name from ≡ file_place file)) files

-- if there was a look since the removals of a session began, it saw each of these files
abbrev pub SeesSince : List DropFile → SeenFiles → Type 0
SeesSince files seen = seen.are_removed ≡ true → (seen.files ≡ None) ⊎ SeesAll files (those_seen seen.files)

-- the file has one of these names
abbrev pub BearsOne : List Namesake → DropFile → Type 0
BearsOne names file = (name : Namesake) × Contains names name × Has name.file file

-- the regular files with the base of a listed one have the same octets
abbrev pub AreCopies : ListedFile → List DropFile → Type 0
AreCopies listed files = (a b : DropFile) → Contains files a → Contains files b → is_namesake listed a ≡ true
    → is_namesake listed b ≡ true → a.content ≡ b.content

-- the file that was listed is there, maybe under another name with its base: the one of its number, length and time of
-- modification
abbrev pub HasListedFile : ListedFile → List DropFile → Type 0
HasListedFile listed files = (file : DropFile) × Contains files file × (is_namesake listed file ≡ true)
    × (file.stamp ≡ listed.stamp)

-- nothing went; or only regular files with the base of a listed one, all of which have the same octets, and one of
-- which is the file that was listed
abbrev pub TakesCopies : ListedFile → List DropFile → List DropFile → Type 0
TakesCopies listed old new = (new ≡ old)
    ⊎ (AreCopies listed old × LacksSome (λ (file : DropFile). is_namesake listed file ≡ true) old new
    × HasListedFile listed old)

-- that; and if the listed one is removed, no regular file with its base is left
abbrev pub TakesMessage : {E : Type 0} → ListedFile → List DropFile → Result (Option TwoMessages) E → List DropFile
    → Type 0
TakesMessage listed old result new = TakesCopies listed old new
    × IfOk result (λ told. IfNone told (All (λ (file : DropFile). is_namesake listed file ≡ false) new))
