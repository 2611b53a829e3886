-- A Maildir in memory: what is there, and what others do.
use Rattle.std.specs.{
  Borrow.Bor,
  IoError.error_kind,
  List.{Contains, Sorted.IsPermutation, filter},
  Prelude.{◌≡◌, ◌≢◌, ◌⊎◌, ◌≤◌, ◌∷◌, ◌++◌, ℕ, Bool, false, true, List, [], Result, Ok, Err, None, All, length, map, pos},
  Prelude.slice_index_or,
  declared.io.{ErrorKind.{ErrorKind, TheVariants.{NotFound, OutOfMemory}}, Error.Error},
}
use Rattle.folder_drop.specs.{
  declared.{
    folders_look.FoldersLook.FoldersLook,
    mail_files.{FileWay.FileWay, Found.Found},
    maildir_names.{Folder.Folder, Stamp.Stamp},
    memory_files.{MemoryFile.MemoryFile, MemoryFiles.MemoryFiles, MemoryHandle.MemoryHandle},
    memory_names.{MemoryName.MemoryName, MemoryNames.MemoryNames},
  },
  MaildirNames.is_listable_name,
  MailFiles.{Bears, DropFile, HasFile, file_place},
  MemoryNames.{RefusesName, is_elsewhere},
}

-- the octets of a file
abbrev pub octets_at : List MemoryFile → ℕ → List ℕ
octets_at files file = slice_index_or (map (λ (f : MemoryFile). f.content.now) files) file []

-- the stamp of the file of this number with these octets
abbrev pub stamp_at : ℕ → List ℕ → Stamp
stamp_at file octets = record {
  number = record { device = 0; inode = file };
  length = length octets;
  seconds = 0;
  nanoseconds = 0;
}

-- what a look at a file tells
abbrev pub found_at : List MemoryFile → ℕ → Found
found_at files file = record {
  is_regular = slice_index_or (map (λ (f : MemoryFile). f.is_regular) files) file false;
  stamp = stamp_at file (octets_at files file);
}

-- what has a name
abbrev pub file_named : List MemoryFile → MemoryName → DropFile
file_named files one = record {
  folder = one.folder;
  name = one.name.now;
  is_regular = (found_at files one.file).is_regular;
  stamp = (found_at files one.file).stamp;
  content = octets_at files one.file;
}

-- what is there now
abbrev pub mail_files : MemoryFiles → List DropFile
mail_files d = map (file_named d.files.items) d.names.items.items

-- the names after so many changes
abbrev pub names_after : ℕ → MemoryFiles → List MemoryName
names_after changes d =
    slice_index_or (map (λ (names : MemoryNames). names.items.items) (d.past.items ++ d.names ∷ [])) changes []

-- these files were there at a look, whose time of change shows after how many changes it was
abbrev pub HasLooked : MemoryFiles → FoldersLook → List DropFile → Type 0
HasLooked d look was = (changes : ℕ) × (changes ≤ length d.past.items) × (look.new.nanoseconds ≡ pos changes)
    × (was ≡ map (file_named d.files.items) (names_after changes d))

-- what was known of looks is known still
abbrev pub StaysLooked : MemoryFiles → MemoryFiles → Type 0
StaysLooked old new = (look : FoldersLook) (was : List DropFile) → HasLooked old look was → HasLooked new look was

-- a file that was opened and not read yet
abbrev pub IsHandle : MemoryFiles → MemoryHandle → Type 0
IsHandle d handle = (file : ℕ) × (handle.found ≡ found_at d.files.items file)
    × (handle.rest.now ≡ octets_at d.files.items file)

-- what has a name was opened; or nothing has it
abbrev pub FindsNamed : MemoryFiles → FileWay → Result MemoryHandle Error → Type 0
FindsNamed d way (Ok handle) = HasFile (mail_files d) way handle.found × IsHandle d handle
FindsNamed d way (Err error) = (error_kind error ≡ NotFound) × Bears (mail_files d) way None

-- ---- what others do

abbrev pub place_given : Folder × Bor (List ℕ) → Folder × List ℕ
place_given place = (place.0, place.1.now)

-- a file with these octets, of a number that none had yet
abbrev pub file_put : MemoryFiles → Folder × List ℕ → Bool → List ℕ → DropFile
file_put d place is_regular content = record {
  folder = place.0;
  name = place.1;
  is_regular = is_regular;
  stamp = stamp_at (length d.files.items) content;
  content = content;
}

-- the same file under another name
abbrev pub named : Folder × List ℕ → DropFile → DropFile
named place file = record file { folder = place.0; name = place.1 }

-- what has other names
abbrev pub elsewhere : Folder × List ℕ → List DropFile → List DropFile
elsewhere place = filter (λ (file : DropFile). is_elsewhere place (file_place file))

-- nothing has the name
abbrev pub LacksName : Folder × List ℕ → List DropFile → ErrorKind → Type 0
LacksName place files kind = (kind ≡ NotFound) × All (λ file. file_place file ≢ place) files

-- one more file is there, under a name that a listing may tell
abbrev pub AddsFile : DropFile → List DropFile → List DropFile → Type 0
AddsFile file old new = (is_listable_name file.name ≡ true) × IsPermutation (file ∷ old) new

-- a file came
abbrev pub PutsName : DropFile → List DropFile → Result Unit Error → List DropFile → Type 0
PutsName file old (Ok done) new = AddsFile file old new
PutsName file old (Err error) new = (new ≡ old) × RefusesName (map file_place old) (file_place file) (error_kind error)

-- a file got a second name
abbrev pub LinksName : Folder × List ℕ → Folder × List ℕ → List DropFile → Result Unit Error → List DropFile → Type 0
LinksName from to old (Ok done) new = (file : DropFile) × Contains old file × (file_place file ≡ from)
    × AddsFile (named to file) old new
LinksName from to old (Err error) new = (new ≡ old)
    × (LacksName from old (error_kind error) ⊎ RefusesName (map file_place old) to (error_kind error))

-- a file got another name
abbrev pub RenamesName : Folder × List ℕ → Folder × List ℕ → List DropFile → Result Unit Error → List DropFile → Type 0
RenamesName from to old (Ok done) new = (file : DropFile) × Contains old file × (file_place file ≡ from)
    × AddsFile (named to file) (elsewhere from old) new
RenamesName from to old (Err error) new = (new ≡ old)
    × (LacksName from old (error_kind error) ⊎ RefusesName (map file_place old) to (error_kind error))

-- a name was taken away
abbrev pub TakesName : Folder × List ℕ → List DropFile → Result Unit Error → List DropFile → Type 0
TakesName from old (Ok done) new = Contains (map file_place old) from × (new ≡ elsewhere from old)
TakesName from old (Err error) new = (new ≡ old)
    × (LacksName from old (error_kind error) ⊎ (error_kind error ≡ OutOfMemory))
