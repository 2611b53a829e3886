-- Where the files of a Maildir were last seen.
use Rattle.std.specs.{Prelude.{◌≡◌, ◌≢◌, ℕ, List, [], Option, None, Some, Vec}, List.{All, Contains}}
use Rattle.folder_drop.specs.{declared.maildir_names.PlacedFile.PlacedFile, Places.base_of_file}

-- the files that were seen: none before the first look
abbrev pub those_seen : {Z : Type 0} → Option (Vec PlacedFile Z) → List PlacedFile
those_seen None = []
those_seen (Some files) = files.items

-- these are the files with this base
pub record HaveBase (name : List ℕ) (files these : List PlacedFile) : Type 0 where
  pub only : All (λ (file : PlacedFile). (base_of_file file ≡ name) × Contains files file) these
  pub each : All (λ (file : PlacedFile). base_of_file file ≡ name → Contains these file) files

-- no file has this base
abbrev pub NoneHasBase : List ℕ → List PlacedFile → Type 0
NoneHasBase name files = All (λ (file : PlacedFile). base_of_file file ≢ name) files
