-- Files of messages with different ids: those of a listing, and those that were listed so far.
use Rattle.std.specs.{
  Prelude.{◌≡◌, ◌≤◌, ◌<◌, ◌-◌, ◌⊎◌, ℕ, Bool, true, false, List, Option, Some, None, Vec, All, IfSome, bytes_eq, get_or},
  Prelude.{length, map},
  List.Contains,
  HashSet.{HashSet, contains},
}
use Rattle.mail_terms.specs.{Distinct.AreDistinct, MaildirName.base}
use Rattle.pop3_server.specs.Maildrop.{ListedMessage, max_count, max_size}
use Rattle.folder_drop.specs.{
  declared.{
    folders_look.FoldersLook.FoldersLook,
    listed_file.ListedFile.ListedFile,
    mail_files.{FileWay.FileWay, Found.Found},
    maildir_names.{FileNumber.FileNumber, PlacedFile.PlacedFile, Stamp.Stamp},
    seen_files.SeenFiles.SeenFiles,
  },
  CountedSizes.WasCounted,
  Finding.{IsLeftOut, IsSizeNow, TellsStamp},
  Places.{base_of_file, folder_and_name},
  MaildirNames.{digest_length, IsIdKey, id_of},
  RealMaildir.{AreAscending, IsBefore, id_of_name, listed_names},
}

abbrev pub size_of_entry : ListedMessage → ℕ
size_of_entry entry = entry.size

abbrev pub size_of_file : ListedFile → ℕ
size_of_file file = file.size

abbrev pub listed_ids : List ListedFile → List (List ℕ)
listed_ids files = map id_of_name (listed_names files)

-- they have different ids, are in the order of their bases, and keep the limits
pub record AreMessages (files : List ListedFile) : Type 0 where
  pub ascending : AreAscending (listed_names files)
  pub distinct : AreDistinct (listed_ids files)
  pub count : length files ≤ max_count
  pub sizes : All (λ (file : ListedFile). file.size ≤ max_size) files

-- a listing: its files in their order, and the look at the folders after which they were found
pub record FileListing : Type 0 where
  pub look : FoldersLook
  pub files : List ListedFile

-- two ids are the same by their bytes
abbrev pub same_key : {Z : Type 0} → Vec ℕ Z → Vec ℕ Z → Bool
same_key a b = bytes_eq a.items b.items

abbrev pub bases_of : List ListedFile → List (List ℕ)
bases_of files = map base (listed_names files)

-- the set has each of these ids that is as long as a digest
abbrev pub AreSeen : {Z S : Type 0} → HashSet (Vec ℕ Z) S → List (List ℕ) → Type 0
AreSeen {Z} {S} seen ids = (key : Vec ℕ Z) → Contains ids key.items → length key.items ≡ digest_length
    → contains same_key seen key ≡ true

-- and no other id
abbrev pub HasNoOther : {Z S : Type 0} → HashSet (Vec ℕ Z) S → List (List ℕ) → Type 0
HasNoOther {Z} {S} seen ids = (key : Vec ℕ Z) → contains same_key seen key ≡ true → Contains ids key.items

-- the files are those of messages, and the set has their ids that are as long as a digest, and no other one
pub record AreListed {Z S : Type 0} (seen : HashSet (Vec ℕ Z) S) (files : List ListedFile) : Type 0 where
  pub messages : AreMessages files
  pub keys : AreSeen seen (listed_ids files)
  pub only : HasNoOther seen (listed_ids files)

-- the base comes after that of the last of these files
abbrev pub FollowsLast : List ListedFile → List ℕ → Type 0
FollowsLast files name = (last : List ℕ) → 0 < length files
    → IsBefore (get_or (bases_of files) (length files - 1) last) name

-- the base doesn't come after that of the last of these files
abbrev pub IsBeforeLast : List ListedFile → List ℕ → Type 0
IsBeforeLast files name = (0 < length files)
    × ((last : List ℕ) → IsBefore (get_or (bases_of files) (length files - 1) last) name → ⊥)

-- the set doesn't have the key, if there is one
abbrev pub IsUnseen : {Z S : Type 0} → HashSet (Vec ℕ Z) S → Option (Vec ℕ Z) → Type 0
IsUnseen seen None = Unit {0}
IsUnseen seen (Some key) = contains same_key seen key ≡ false

-- a file of this base may be listed next: the base comes after that of the last one, and no listed file has its id
pub record MayBeListed {Z S : Type 0} (seen : HashSet (Vec ℕ Z) S) (files : List ListedFile) (key : Option (Vec ℕ Z))
    (name : List ℕ) : Type 0 where
  pub behind : FollowsLast files name
  pub is_key : IsIdKey key (id_of name)
  pub unseen : IsUnseen seen key

-- a regular file that was found had this length and time of modification, and has this size: as it was counted before,
-- or as it was read
pub record IsMeasured {File : Type 0} (remaining : File → Option (List ℕ)) (found : FileWay → Option Found → Type 0)
    (opened : FileWay → FileNumber → File → Type 0) (told : List PlacedFile → Type 0) (earlier : List ListedFile)
    (file : PlacedFile) (measured : Stamp × ℕ) : Type 0 where
  pub seen : SeenFiles
  pub stamp : TellsStamp found told seen (folder_and_name file) (Some measured.0)
  pub size : WasCounted earlier file measured.0 measured.1
      ⊎ IsSizeNow remaining found opened (folder_and_name file) measured.1

-- a listed file is one of those that were found, measured so
pub record ListsFound (IsSo : PlacedFile → Stamp × ℕ → Type 0) (found : List PlacedFile) (listed : ListedFile)
    : Type 0 where
  pub file : PlacedFile
  pub there : Contains found file
  pub folder : listed.folder ≡ file.folder
  pub name : listed.name ≡ file.name
  pub measured : IsSo file (listed.stamp, listed.size)

-- a regular file that was found is gone or above the limit, by its stamp and the size that was counted for it, or read
abbrev pub IsUnfit : {File : Type 0} → (File → Option (List ℕ)) → (FileWay → Option Found → Type 0)
    → (FileWay → FileNumber → File → Type 0) → (List PlacedFile → Type 0) → List ListedFile → PlacedFile → SeenFiles
    → Type 0
IsUnfit remaining found opened told earlier file seen = (stamp : Stamp) × (known : Option ℕ)
    × ((then : SeenFiles) × TellsStamp found told then (folder_and_name file) (Some stamp))
    × IfSome known (WasCounted earlier file stamp)
    × IsLeftOut remaining found opened told seen (folder_and_name file) (stamp, known)

-- what was found is no message: it is that, or no regular file
abbrev pub IsPassedOver : {File : Type 0} → (File → Option (List ℕ)) → (FileWay → Option Found → Type 0)
    → (FileWay → FileNumber → File → Type 0) → (List PlacedFile → Type 0) → List ListedFile → PlacedFile → Type 0
IsPassedOver remaining found opened told earlier file = (seen : SeenFiles)
    × (TellsStamp found told seen (folder_and_name file) None ⊎ IsUnfit remaining found opened told earlier file seen)

-- a message of the id of a file that was found is listed; or as many are as may be, or it is no message
abbrev pub IsAccountedFor : (PlacedFile → Type 0) → List ListedFile → PlacedFile → Type 0
IsAccountedFor IsPassed files file = Contains (listed_ids files) (id_of (base_of_file file))
    ⊎ ((max_count ≤ length files) ⊎ IsPassed file)
