-- The files in `new` and `cur` of a Maildir, and what each call tells of them or does to them.
use Rattle.std.specs.{
  List.{All, Contains, filter},
  Prelude.{◌≡◌, ◌⊎◌, ◌==◌, ◌&&◌, ℕ, Bool, true, List, Option, None, Some, Result, Ok, Err, bytes_eq, drop, length, map},
  Prelude.{IfOk, string_bytes},
}
use Rattle.mail_terms.specs.Distinct.{AreDistinct}
use Rattle.folder_drop.specs.{
  declared.{
    folders_look.FoldersLook.FoldersLook,
    mail_files.{FileWay.FileWay, Found.Found},
    maildir_names.{FileNumber.FileNumber, Folder.Folder, PlacedFile.PlacedFile, Stamp.Stamp},
  },
  Places.{IsWayTo, folder_and_name, rank},
}

-- what has a name in one of the folders: where it is, what a look at it tells, and its octets
pub record DropFile : Type 0 where
  pub folder : Folder
  pub name : List ℕ
  pub is_regular : Bool
  pub stamp : Stamp
  pub content : List ℕ

abbrev pub file_place : DropFile → Folder × List ℕ
file_place file = (file.folder, file.name)

-- no two are in one place, and names of one file have the same octets
pub record AreMailFiles (files : List DropFile) : Type 0 where
  pub distinct : AreDistinct (map file_place files)
  pub one : (a b : DropFile) → Contains files a → Contains files b → a.stamp.number ≡ b.stamp.number
      → a.content ≡ b.content

-- it is in this place
abbrev pub is_in_place : Folder × List ℕ → DropFile → Bool
is_in_place place file = (rank place.0 == rank file.folder) && bytes_eq place.1 file.name

-- all of them were told, in the order of messages
abbrev pub TellsEach : List DropFile → List PlacedFile → Type 0
TellsEach files told = map folder_and_name told ≡ map file_place files

-- this bears the name
pub record HasFile (files : List DropFile) (way : FileWay) (what : Found) : Type 0 where
  pub file : DropFile
  pub there : Contains files file
  pub leads : IsWayTo way (file_place file)
  pub regular : what.is_regular ≡ file.is_regular
  pub stamp : what.stamp ≡ file.stamp

-- this bears the name, or nothing does
abbrev pub Bears : List DropFile → FileWay → Option Found → Type 0
Bears files way (Some what) = HasFile files way what
Bears files way None = All (λ (file : DropFile). IsWayTo way (file_place file) → ⊥) files

-- the regular file of this number was found to bear the name
abbrev pub FoundRegular : (FileWay → Option Found → Type 0) → FileWay → FileNumber → Type 0
FoundRegular found way number = (what : Found) × found way (Some what) × (what.is_regular ≡ true)
    × (what.stamp.number ≡ number)

-- if this is a regular file, what was opened under a name is known to be that
abbrev pub TellsHandle : {File : Type 0} → (FileWay → File → Type 0) → (FileWay → FileNumber → File → Type 0) → File
    → Found → Type 0
TellsHandle gave opened file what = what.is_regular ≡ true → (way : FileWay) → gave way file
    → opened way what.stamp.number file

-- a handle has the octets of the file of this number, if that is there
abbrev pub HasOctetsOf : {File : Type 0} → (File → Option (List ℕ)) → List DropFile → FileNumber → File → Type 0
HasOctetsOf remaining files number handle =
    All (λ (file : DropFile). file.stamp.number ≡ number → remaining handle ≡ Some file.content) files

-- it is the Maildir at the same path, and each look at the folders that was made is known still
pub record Stays {D : Type 0} (path : D → List ℕ) (looked : D → FoldersLook → List DropFile → Type 0) (old new : D)
    : Type 0 where
  pub place : path new ≡ path old
  pub looks : (look : FoldersLook) (was : List DropFile) → looked old look was → looked new look was

-- a look at the folders: nothing changes, and if it succeeds it is known to be of the files that are there
pub record Looks {E : Type 0} (old : List DropFile) (result : Result FoldersLook E) (new : List DropFile)
    (looked : FoldersLook → List DropFile → Type 0) : Type 0 where
  pub same : new ≡ old
  pub now : IfOk result (λ look. looked look new)

-- lseek(2): past so many octets
abbrev pub Skips : Option (List ℕ) → ℕ → Option (List ℕ) → Type 0
Skips old count new = (octets : List ℕ) → old ≡ Some octets → new ≡ Some (drop count octets)

-- some of these are taken away, each of which is P
abbrev pub LacksSome : (DropFile → Type 0) → List DropFile → List DropFile → Type 0
LacksSome P old new = (stays : DropFile → Bool) × (new ≡ filter stays old)
    × All (λ (file : DropFile). (stays file ≡ true) ⊎ P file) old

-- it has the name
abbrev pub Has : FileWay → DropFile → Type 0
Has way file = IsWayTo way (file_place file)

-- of what is there nothing goes but some that are P; and what was removed before still is
pub record TakesSome {D : Type 0} (path : D → List ℕ) (looked : D → FoldersLook → List DropFile → Type 0)
    (removed : D → FileWay → FileNumber → Type 0) (sound : D → Type 0) (files : D → List DropFile)
    (P : DropFile → Type 0) (old new : D) : Type 0 where
  pub stays : Stays path looked old new
  pub names : (way : FileWay) (number : FileNumber) → removed old way number → removed new way number
  pub lacks : sound new → sound old × LacksSome P (files old) (files new)
