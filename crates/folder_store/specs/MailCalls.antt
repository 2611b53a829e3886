-- What each call does to the folders of a Maildir, once others have moved files.
use Rattle.std.specs.{
  Prelude.{◌≡◌, ◌⊎◌, ◌||◌, ℕ, Bool, true, false, not, IsTrue, List, [], ◌∷◌, ◌++◌, map, Result, Ok, Err, Vec},
  Prelude.{IfErr, IfOk, OnOk, String, string_bytes, IsPermutation, Contains},
  List.{AllByRecursion, AllZip, filter},
}
use Rattle.mail_terms.specs.UniqueId.{has_id}
use Rattle.mail_store.specs.{
  declared.fault.StoreFault.{StoreFault, TheVariants.{Missing, Refused}},
  declared.maildir.disk.Folder.{Folder, TheVariants.{New, Cur}},
  FileName.stem,
  Maildir.{AllNamed, AreTheirs, File, IsWithout, MayBeNamed, bases_told, is_there, mail, names_of},
  Held.{AreAmong, asks, is_sought},
  Loss.is_among,
}
use Rattle.folder_store.specs.{
  declared.mail_folders.{FoundNames.FoundNames, Sought.{Sought, TheVariants.{All, Items}}},
  FileFolder.{MadeFile, Makes},
  MailFolders.{Directories, MailFile, KeepsFile, Moved, files_at, is_left, is_taken, name_at, entries_in, rests_in},
  MailFolders.{closed_in, odd_in_both, odd_names_in, touches_new, touches_cur, unopened_in},
}

-- others moved files, and then the call did this
abbrev pub Then : (Directories → Directories → Type 0) → Directories → Directories → Type 0
Then Does old new = (mid : Directories) × Moved old mid × Does mid new

-- a call that needs a folder answered a fault, and nothing changed
abbrev pub Lacks : Directories → Folder → StoreFault → Directories → Type 0
Lacks old folder fault new = (new ≡ old) × (fault ≡ Missing → is_there old.there folder ≡ false)

-- this holds if the answer is Missing
abbrev pub IfMissing : {T : Type 0} → Result T StoreFault → Type 0 → Type 0
IfMissing r P = IfErr r (λ fault. fault ≡ Missing → P)

-- files that readers took away are known no longer, but as taken
abbrev pub without_taken : Directories → Directories
without_taken d = record d {
  entries = filter is_left d.entries;
  taken = d.taken ++ files_at (filter is_taken d.entries);
}

-- a folder was listed, and has rested since; what can't be opened bears the names there that were seen
abbrev pub after_listing : Folder → (seen : Directories) → Directories → Directories
after_listing New seen d = record (without_taken d) { new_rests = true; odd_new = seen.odd_new }
after_listing Cur seen d =
    record (without_taken d) { cur_rests = true; odd_cur = seen.odd_cur; dirs_cur = seen.dirs_cur }

-- `check`: the folder is there
abbrev pub ChecksIn : {T : Type 0} → Folder → Result T StoreFault → Directories → Directories → Type 0
ChecksIn folder r old new =
    (new ≡ old) × OnOk r (is_there old.there folder ≡ true) × IfMissing r (is_there old.there folder ≡ false)

-- those of some names that are sought, in order
abbrev pub names_sought : Sought → List (List ℕ) → List (List ℕ)
names_sought All names = names
names_sought (Items asked) names = filter (is_sought (asks asked)) names

-- those of some names that are sought were told, in any order
abbrev pub AreSought : Sought → List (List ℕ) → List (List ℕ) → Type 0
AreSought sought names told = (order : List (List ℕ)) × IsPermutation names order × (told ≡ names_sought sought order)

-- the odd ones among names that were listed, and those of files: the others
abbrev pub odd_names : List (List ℕ) → List (List ℕ) → List (List ℕ)
odd_names odd names = filter (has_id odd) names

abbrev pub file_names : List (List ℕ) → List (List ℕ) → List (List ℕ)
file_names odd names = filter (λ name. not (has_id odd name)) names

-- the same, but if all are sought each counts as that of a file
abbrev pub names_told : Sought → List (List ℕ) → List (List ℕ) → List (List ℕ)
names_told All odd names = names
names_told (Items asked) odd names = file_names odd names

-- the stem of each of these names is sought
abbrev pub AllSought : (List ℕ → Bool) → List (List ℕ) → Type 0
AllSought seeks names = AllByRecursion (λ name. is_sought seeks name ≡ true) names

-- where files and what can't be opened bear these names, the odd ones are exactly those of the latter that are sought;
-- these were told, and no others as such. If all are sought, no name counts as odd
abbrev pub ShowsOdd : Sought → (files closed odd names : List (List ℕ)) → Type 0
ShowsOdd All files closed odd names = odd ≡ []
ShowsOdd (Items asked) files closed odd names =
    (odd ≡ file_names (filter (is_sought (asks asked)) files) (filter (is_sought (asks asked)) closed))
    × IsPermutation odd (odd_names odd names)

-- `list`: the names of the files of a folder that are sought, in any order, and others that what can't be opened bears:
-- each of these that is sought
abbrev pub ListsIn : {A B : Type 0} → Folder → Sought → Result (Vec (String A) B) StoreFault → Directories
    → Directories → Type 0
ListsIn folder sought (Ok names) old new = (is_there old.there folder ≡ true)
    × AreSought sought (map name_at (entries_in folder old.entries))
    (names_told sought (unopened_in folder new) (map string_bytes names.items))
    × (new ≡ after_listing folder new old)
    × ShowsOdd sought (map name_at (entries_in folder old.entries)) (closed_in folder old) (odd_names_in folder new)
    (map string_bytes names.items)
ListsIn folder sought (Err fault) old new = Lacks old folder fault new

-- `files_among`: of these names of `new` and `cur` those of files, in order, and the odd ones
abbrev pub TellsFiles : List (List ℕ) → List (List ℕ) → Result FoundNames StoreFault → Directories → Directories
    → Type 0
TellsFiles in_new in_cur r old new = (new ≡ old) × IfOk r (λ found.
    (map string_bytes found.files.items
    ≡ file_names (unopened_in New old) in_new ++ file_names (unopened_in Cur old) in_cur)
    × (map string_bytes found.odd.items ≡ odd_names old.odd_new in_new ++ odd_names old.odd_cur in_cur))

-- `rests`: if the answer is true, the folder has rested since it was last listed
abbrev pub TellsRest : Folder → Result Bool StoreFault → Directories → Directories → Type 0
TellsRest folder r old new =
    (new ≡ old) × IfOk r (λ rests. IsTrue rests → rests_in folder old ≡ true)
    × IfMissing r (is_there old.there folder ≡ false)

-- `make`: a file without bytes and without a name
abbrev pub MakesDraft : {N : Type 0} → (N → MadeFile) → Result N StoreFault → Directories → Directories → Type 0
MakesDraft made r old new = (new ≡ old) × Makes made old.there.tmp r

-- a file that was made, in `new`
abbrev pub put_as : List ℕ → MadeFile → MailFile
put_as name file = record {
  is_new = true;
  name = name;
  content = file.content;
  is_flushed = file.is_flushed;
  is_named = false;
  left_new = false;
  left_cur = false;
  is_gone = false;
}

-- nothing in a folder has the name: no file, and nothing that can't be opened
abbrev pub IsFree : Folder → List ℕ → Directories → Type 0
IsFree folder name d =
    (Contains (map name_at (entries_in folder d.entries)) name → ⊥) × (Contains (closed_in folder d) name → ⊥)

-- a file that was made is put into `new`, where nothing has the name
abbrev pub PutsIntoNew : MadeFile → List ℕ → Directories → Directories → Type 0
PutsIntoNew file name old new = IsFree New name old
    × (new ≡ record old { entries = old.entries ++ put_as name file ∷ []; new_rests = false })

-- `put`: a refused call did it, or nothing
abbrev pub PutsDraft : {T : Type 0} → MadeFile → List ℕ → Result T StoreFault → Directories → Directories → Type 0
PutsDraft file name (Ok done) old new = PutsIntoNew file name old new
PutsDraft file name (Err fault) old new = (new ≡ old) ⊎ PutsIntoNew file name old new

-- a file once the names of a folder were flushed: if it is in this folder, or left it since they last were, some name
-- of it is durable
abbrev pub named_by : Folder → MailFile → MailFile
named_by New s = record s { is_named = s.is_named || touches_new s; left_new = false }
named_by Cur s = record s { is_named = s.is_named || touches_cur s; left_cur = false }

abbrev pub names_flushed_in : Folder → Directories → Directories
names_flushed_in folder d = record d { entries = map (named_by folder) d.entries }

-- `flush_names`: the names of a folder are durable; a refused call did it, or nothing. An answer that its file system
-- flushes no folders ends the premise
abbrev pub FlushesNamesIn : Folder → Result Bool StoreFault → Directories → Directories → Type 0
FlushesNamesIn folder (Ok flushes) old new = (flushes ≡ true) × (new ≡ names_flushed_in folder old)
FlushesNamesIn folder (Err fault) old new = Lacks old folder fault new
    ⊎ ((fault ≡ Refused) × (new ≡ names_flushed_in folder old))

-- a file once those whose names have one of these stems were flushed
abbrev pub entry_flushed_by : {A : Type 0} → List (String A) → MailFile → MailFile
entry_flushed_by stems s = record s { is_flushed = s.is_flushed || is_among stems (stem s.name) }

abbrev pub files_flushed : {A : Type 0} → List (String A) → Directories → Directories
files_flushed stems d = record d { entries = map (entry_flushed_by stems) d.entries }

-- `flush_files`: the bytes of each file with one of these stems are durable, if the answer is true
abbrev pub FlushesFiles : {A : Type 0} → List (String A) → Result Bool StoreFault → Directories → Directories → Type 0
FlushesFiles stems (Ok true) old new = new ≡ files_flushed stems old
FlushesFiles stems answer old new = new ≡ old

-- ---- several calls

-- all that calls see of the files is as it was, and so is what of them is durable
pub record SameFiles (old new : Directories) : Type 0 where
  pub there : new.there ≡ old.there
  pub taken : new.taken ≡ old.taken
  pub odd : odd_in_both new ≡ odd_in_both old
  pub files : files_at new.entries ≡ files_at old.entries

-- these files came after the others, whose names may be durable by now
pub record BringsFiles (old : Directories) (added : List File) (new : Directories) : Type 0 where
  pub there : new.there ≡ old.there
  pub taken : new.taken ≡ old.taken
  pub odd : odd_in_both new ≡ odd_in_both old
  pub risen : List File
  pub reached : AllZip MayBeNamed (files_at old.entries) risen
  pub files : files_at new.entries ≡ risen ++ added

-- all that calls see of the folders is as it was
pub record Leads (old new : Directories) : Type 0 where
  pub there : new.there ≡ old.there
  pub taken : new.taken ≡ old.taken
  pub odd : odd_in_both new ≡ odd_in_both old
  pub keeps : AllZip KeepsFile old.entries new.entries

-- the same, but files that readers took away may be known no longer, except as taken, and what can't be opened may have
-- been seen in a folder that is there
pub record Learns (old new : Directories) : Type 0 where
  pub there : new.there ≡ old.there
  pub gone : List File
  pub odd : old.there.new ≡ false → old.there.cur ≡ false → odd_in_both new ≡ odd_in_both old
  pub taken : new.taken ≡ old.taken ++ gone
  pub left : IsWithout (files_at old.entries) gone (files_at new.entries)

-- at one moment these were the names of `new` and of `cur` that are sought, and since then others only moved files
abbrev pub ListedBoth : {A B : Type 0} → Sought → Vec (String A) B × Vec (String A) B → Directories → Type 0
ListedBoth sought names d =
    (moment : Directories) × ListsIn New sought (Ok names.0) moment (after_listing New moment moment)
    × ListsIn Cur sought (Ok names.1) moment (after_listing Cur moment moment)
    × Moved (without_taken moment) d

-- the names of both folders at one moment whose stems are sought: those of files, and those that what can't be opened
-- bears; and each file has a durable name
pub record ToldBoth {A : Type 0} (seeks : List ℕ → Bool) (names odd : List (String A)) (d : Directories)
    : Type 0 where
  pub new_is_there : d.there.new ≡ true
  pub cur_is_there : d.there.cur ≡ true
  pub lists : AreAmong seeks (names_of (files_at d.entries)) (bases_told names)
  pub named : AllNamed (files_at d.entries)
  pub odd_are : IsPermutation (odd_in_both d) (map string_bytes odd)
  pub odd_sought : AllSought seeks (odd_in_both d)

-- one of the folders isn't there
abbrev pub LacksOne : Directories → Type 0
LacksOne d = (folder : Folder) × (is_there d.there folder ≡ false)

-- a call that needs both folders answered; an answer tells this of them
abbrev pub TellsOfBoth : {T : Type 0} → Directories → Result T StoreFault → Directories → (T → Directories → Type 0)
    → Type 0
TellsOfBoth old r new Told = Learns old new × IfOk r (λ answer. Told answer new) × IfMissing r (LacksOne new)

-- the names of one folder were told: each is that of a file that is there, in this folder or already in the other
-- one, and stays
abbrev pub TellsOne : {A B : Type 0} → Directories → Folder → Result (Vec (String A) B) StoreFault
    → Directories → Type 0
TellsOne old folder r new =
    Learns old new × IfOk r (λ names. (is_there new.there folder ≡ true) × AreTheirs (files_at new.entries) names.items)
    × IfMissing r (is_there new.there folder ≡ false)

-- ---- settling

-- a file that was flushed is in one of the folders, and all that were there still are; its name may be durable
abbrev pub StandsIn : Directories → List ℕ → List ℕ → Directories → Type 0
StandsIn old content name new = (is_named : Bool)
    × BringsFiles old (record (mail name content) { is_named = is_named } ∷ []) new

-- a file that was made was flushed, put under the name, and then the names of `new` were flushed; a refused call did
-- a part of this. No file is replaced, whatever has the name
abbrev pub PutsDurably : {T : Type 0} → Directories → List ℕ → List ℕ → Result T StoreFault → Directories → Type 0
PutsDurably old content name (Ok done) new = BringsFiles old (mail name content ∷ []) new
PutsDurably old content name (Err fault) new = SameFiles old new ⊎ StandsIn old content name new
