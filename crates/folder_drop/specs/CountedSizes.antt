-- The sizes that were counted for an earlier listing.
use Rattle.std.specs.{Prelude.{◌≡◌, ℕ, List, string_bytes}, List.Contains}
use Rattle.folder_drop.specs.declared.{
  maildir_names.{Stamp.Stamp, PlacedFile.PlacedFile},
  listed_file.ListedFile.ListedFile,
}

-- one of these files has the folder and the name of the one that was found, this length and time of modification, and
-- this size
pub record WasCounted (files : List ListedFile) (found : PlacedFile) (stamp : Stamp) (counted : ℕ) : Type 0 where
  pub file : ListedFile
  pub listed : Contains files file
  pub folder : file.folder ≡ found.folder
  pub name : string_bytes file.name ≡ string_bytes found.name
  pub same : file.stamp ≡ stamp
  pub size : file.size ≡ counted

-- some files are among others
abbrev pub ComeFrom : (some all : List ListedFile) → Type 0
ComeFrom some all = (file : ListedFile) → Contains some file → Contains all file
