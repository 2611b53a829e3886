-- The folders `new` and `cur` of a Maildir, in which mail readers move files, and from which they take files away, at
-- any moment.
use Rattle.std.specs.{
  Prelude.{◌≡◌, ◌==◌, ◌||◌, ◌&&◌, ℕ, Bool, true, false, not, List, [], ◌∷◌, ◌++◌, codes, length, map, Option, None},
  Prelude.{String, string_bytes},
  List.{AllZip, filter, list_any, starts_with},
}
use Rattle.mail_terms.specs.MaildirName.{base}
use Rattle.mail_store.specs.{
  declared.maildir.disk.Folder.{Folder, TheVariants.{New, Cur}},
  Maildir.{Draft, Maildir, File, Folders, draft, mail},
}
use Rattle.folder_store.specs.FileFolder.{MadeFile}

-- no file's name has a slash or a NUL
abbrev pub ends_name : ℕ → Bool
ends_name octet = octet == 47 || octet == 0

-- a name of a file of the folder itself that mail readers look at: it isn't empty and doesn't begin with a full stop
abbrev pub is_file_name : List ℕ → Bool
is_file_name name = not (length name == 0) && not (starts_with (λ a b. a == b) name (codes "."))
    && not (list_any ends_name name)

-- a file of one of the two folders: whether it is in `new`, its name with its marks, and its bytes; whether its
-- bytes are durable, and whether some name of it in one of the folders is; whether it left `new`, or `cur`,
-- since the names of that folder were last flushed; and whether a reader took it away, after which it is known until
-- a folder is listed
pub record MailFile : Type 0 where
  pub is_new : Bool
  pub name : List ℕ
  pub content : List ℕ
  pub is_flushed : Bool
  pub is_named : Bool
  pub left_new : Bool
  pub left_cur : Bool
  pub is_gone : Bool

-- which of the folders are there; the files of `new` and `cur` in the order in which they came; whether `new`, and
-- `cur`, have rested since they were last listed: no file came, went or got another name there; the files that readers
-- took away, in the order in which that was seen; which names in `new`, and in `cur`, what can't be opened bears, but
-- for folders in `cur`: no delivery needs the name of one; which of these were seen when that folder was last listed,
-- since they were sought; and which names of folders were seen in `cur` then
pub record Directories : Type 0 where
  pub there : Folders
  pub entries : List MailFile
  pub new_rests : Bool
  pub cur_rests : Bool
  pub taken : List File
  pub closed_new : List (List ℕ)
  pub closed_cur : List (List ℕ)
  pub odd_new : List (List ℕ)
  pub odd_cur : List (List ℕ)
  pub dirs_cur : List (List ℕ)

-- what a flush of the names of `new`, or of `cur`, makes durable
abbrev pub touches_new : MailFile → Bool
touches_new s = s.is_new || s.left_new

abbrev pub touches_cur : MailFile → Bool
touches_cur s = not s.is_new || s.left_cur

abbrev pub touches : Folder → MailFile → Bool
touches New s = touches_new s
touches Cur s = touches_cur s

-- ---- the files of a folder

abbrev pub name_at : MailFile → List ℕ
name_at s = s.name

abbrev pub is_in : Folder → MailFile → Bool
is_in New s = s.is_new
is_in Cur s = not s.is_new

-- no reader took it away
abbrev pub is_left : MailFile → Bool
is_left s = not s.is_gone

-- a reader took it away
abbrev pub is_taken : MailFile → Bool
is_taken s = s.is_gone

-- it is in the folder, and no reader took it away
abbrev pub is_told : Folder → MailFile → Bool
is_told folder s = is_left s && is_in folder s

abbrev pub entries_in : Folder → List MailFile → List MailFile
entries_in folder entries = filter (is_in folder) (filter is_left entries)

-- whether a folder has rested since it was last listed
abbrev pub rests_in : Folder → Directories → Bool
rests_in New d = d.new_rests
rests_in Cur d = d.cur_rests

-- which names in a folder what can't be opened bears, but for folders in `cur`
abbrev pub closed_in : Folder → Directories → List (List ℕ)
closed_in New d = d.closed_new
closed_in Cur d = d.closed_cur

-- which of these were seen when it was last listed
abbrev pub odd_names_in : Folder → Directories → List (List ℕ)
odd_names_in New d = d.odd_new
odd_names_in Cur d = d.odd_cur

-- the same of both
abbrev pub odd_in_both : Directories → List (List ℕ)
odd_in_both d = d.odd_new ++ d.odd_cur

-- which names of a folder weren't those of files when that was last listed
abbrev pub unopened_in : Folder → Directories → List (List ℕ)
unopened_in New d = d.odd_new
unopened_in Cur d = d.dirs_cur ++ d.odd_cur

-- ---- what readers do

-- a file keeps its name up to the first colon, its bytes, and what of it is durable
pub record KeepsFile (s t : MailFile) : Type 0 where
  pub title : base t.name ≡ base s.name
  pub content : t.content ≡ s.content
  pub flushed : s.is_flushed ≡ true → t.is_flushed ≡ true
  pub named : s.is_named ≡ true → t.is_named ≡ true

-- a file was moved and marked any number of times, and perhaps taken away. What others flush isn't known to be durable
pub record MovesFile (s t : MailFile) : Type 0 where
  pub keeps : KeepsFile s t
  pub flushed : t.is_flushed ≡ s.is_flushed
  pub named : t.is_named ≡ s.is_named
  pub new : touches_new s ≡ true → touches_new t ≡ true
  pub cur : touches_cur s ≡ true → touches_cur t ≡ true

-- it is in the same folder, and if it is in this one, under the same name, and wasn't taken away
pub record RestsFile (folder : Folder) (s t : MailFile) : Type 0 where
  pub place : t.is_new ≡ s.is_new
  pub name : is_in folder s ≡ true → t.name ≡ s.name
  pub gone : is_in folder s ≡ true → t.is_gone ≡ s.is_gone

-- others moved and marked files, or took some away; a folder that still rests wasn't touched. At any moment they may
-- put what can't be opened into the folders, and take it away: nothing is said of these names
pub record Moved (old new : Directories) : Type 0 where
  pub there : new.there ≡ old.there
  pub taken : new.taken ≡ old.taken
  pub odd_new : new.odd_new ≡ old.odd_new
  pub odd_cur : new.odd_cur ≡ old.odd_cur
  pub dirs_cur : new.dirs_cur ≡ old.dirs_cur
  pub moves : AllZip MovesFile old.entries new.entries
  pub rests : (folder : Folder) → rests_in folder new ≡ true
      → (rests_in folder old ≡ true) × AllZip (RestsFile folder) old.entries new.entries

-- a reader moved or marked one file, or took it away; each folder that it touched no longer rests
pub record OneMoves (old : Directories) (front back : List MailFile) (s t : MailFile) (new : Directories) : Type 0 where
  pub there : new.there ≡ old.there
  pub taken : new.taken ≡ old.taken
  pub odd_new : new.odd_new ≡ old.odd_new
  pub odd_cur : new.odd_cur ≡ old.odd_cur
  pub dirs_cur : new.dirs_cur ≡ old.dirs_cur
  pub before : old.entries ≡ front ++ s ∷ back
  pub after : new.entries ≡ front ++ t ∷ back
  pub moves : MovesFile s t
  pub rests : (folder : Folder) → rests_in folder new ≡ true → (rests_in folder old ≡ true) × RestsFile folder s t

-- ---- what is seen of them

abbrev pub mail_at : MailFile → File
mail_at s = record (mail s.name s.content) { is_named = s.is_named; is_flushed = s.is_flushed }

abbrev pub files_at : List MailFile → List File
files_at entries = map mail_at entries

-- a file that was made, and is to have this name
abbrev pub draft_begun : {N A : Type 0} → (N → MadeFile) → String A × N → Draft
draft_begun made begun = draft (string_bytes begun.0) (made begun.1).content

abbrev pub maildir_in : Directories → Option Draft → (told : List (List ℕ)) → ℕ → Maildir
maildir_in d begun told failures = record {
  there = d.there;
  files = files_at d.entries;
  begun = begun;
  failures = failures;
  taken = d.taken;
  odd = odd_in_both d;
  told = told;
}

-- folders of which nothing is known
abbrev pub unknown_directories : Directories
unknown_directories = record {
  there = record { tmp = false; new = false; cur = false };
  entries = [];
  new_rests = false;
  cur_rests = false;
  taken = [];
  closed_new = [];
  closed_cur = [];
  odd_new = [];
  odd_cur = [];
  dirs_cur = [];
}

-- a Maildir of which nothing is known; no file is being written and no call was refused
abbrev pub unknown_maildir : Maildir
unknown_maildir = maildir_in unknown_directories None [] 0
