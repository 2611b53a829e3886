-- What each call of a Maildir device does, for either outcome, as a relation between the Maildir
-- before and after the call.
use Rattle.std.specs.{
  Prelude.{◌≡◌, ℕ, ◌+◌, List, [], ◌∷◌, ◌++◌, map, Bool, false, true, Option, Some, None, option_map, Result, Ok, Err},
  Prelude.{◌⊎◌, Vec, String, string_bytes, Contains, All},
  List.{AllByRecursion, AllZip, filter},
}
use Rattle.mail_terms.specs.MaildirName.{base}
use Rattle.mail_store.specs.declared.{
  fault.StoreFault.{StoreFault, TheVariants.{Missing, Refused, NotMbox, NoMemory}},
  maildir.disk.Folder.{Folder, TheVariants.{New, Cur}},
}

-- a file of `new` or `cur`: its name, which is only the part before its first colon, and its bytes; and whether
-- its name, and its bytes, are known to be durable. Which of the two folders it is in and which marks follow
-- the colon isn't seen, so a reader that moves a file or changes its marks changes nothing here, at whatever moment
pub record File : Type 0 where
  pub name : List ℕ
  pub content : List ℕ
  pub is_named : Bool
  pub is_flushed : Bool

-- the file that is being written in `tmp`: its name and its bytes
pub record Draft : Type 0 where
  pub name : List ℕ
  pub content : List ℕ

-- which of the three folders are there
pub record Folders : Type 0 where
  pub tmp : Bool
  pub new : Bool
  pub cur : Bool

-- what is known of a Maildir: its folders, the files of `new` and `cur` together in the order in which they came, the
-- file that is being written in `tmp`, how many calls were refused, the files that readers took away, in the order in
-- which that was seen (until then each is among the files), the names that what can't be opened bears in `new` and
-- `cur` (it is no file; a folder in `cur` doesn't count: no delivery needs its name), of those that were sought when
-- each of the two was last listed, and which such names the device tells
pub record Maildir : Type 0 where
  pub there : Folders
  pub files : List File
  pub begun : Option Draft
  pub failures : ℕ
  pub taken : List File
  pub odd : List (List ℕ)
  pub told : List (List ℕ)

abbrev pub name_in : File → List ℕ
name_in f = f.name

-- the names of some files
abbrev pub names_of : List File → List (List ℕ)
names_of files = map name_in files

-- a durable file of this name and these bytes
abbrev pub file : List ℕ → List ℕ → File
file name content = record { name = name; content = content; is_named = true; is_flushed = true }

-- a durable file of this name, with whatever marks, and these bytes
abbrev pub mail : List ℕ → List ℕ → File
mail name content = file (base name) content

-- a file that is being written
abbrev pub draft : List ℕ → List ℕ → Draft
draft name content = record { name = name; content = content }

-- a file of a device in memory, and the one that it is writing
abbrev pub memory_file : {A B : Type 0} → String A × Vec ℕ B → File
memory_file pair = file (string_bytes pair.0) pair.1.items

abbrev pub draft_of : {A B : Type 0} → String A × Vec ℕ B → Draft
draft_of pair = draft (string_bytes pair.0) pair.1.items

-- ---- what is durable

-- its name is durable: a loss of power leaves it
abbrev pub IsNamed : File → Type 0
IsNamed f = f.is_named ≡ true

-- so are its bytes: a loss of power leaves it whole
abbrev pub IsDurableFile : File → Type 0
IsDurableFile f = (f.is_named ≡ true) × (f.is_flushed ≡ true)

-- the name of each file is durable; its bytes are; both
abbrev pub AllNamed : List File → Type 0
AllNamed files = AllByRecursion IsNamed files

abbrev pub AllFlushed : List File → Type 0
AllFlushed files = AllByRecursion (λ (f : File). f.is_flushed ≡ true) files

abbrev pub AllDurable : List File → Type 0
AllDurable files = AllNamed files × AllFlushed files

-- the same file, of which more may be durable
pub record IsAsDurable (f g : File) : Type 0 where
  pub name : g.name ≡ f.name
  pub content : g.content ≡ f.content
  pub named : f.is_named ≡ true → g.is_named ≡ true
  pub flushed : f.is_flushed ≡ true → g.is_flushed ≡ true

-- the names that a device told, each without its marks
abbrev pub bases_told : {A : Type 0} → List (String A) → List (List ℕ)
bases_told names = map (λ name. base (string_bytes name)) names

-- one more refusal
abbrev pub maildir_refused : Maildir → Maildir
maildir_refused old = record old { failures = old.failures + 1 }

-- no file is being written
abbrev pub dropped : Maildir → Maildir
dropped old = record old { begun = None }

-- the file is there, after the others, and none is being written
abbrev pub with_file : Maildir → File → Maildir
with_file old f = record old { files = old.files ++ f ∷ []; begun = None }

-- the name of the file that is being written, if there is one
abbrev pub name_begun : Maildir → Option (List ℕ)
name_begun maildir = option_map (λ (d : Draft). d.name) maildir.begun

-- the same files, in order, of each of which more may be durable
abbrev pub AreReached : List File → List File → Type 0
AreReached files risen = AllZip IsAsDurable files risen

-- what is left of some files, in order, once these were taken, one by one; at each moment more may be durable
abbrev pub IsWithout : List File → List File → List File → Type 0
IsWithout files [] left = AreReached files left
IsWithout files (f ∷ gone) left = (front back : List File) × AreReached files (front ++ f ∷ back)
    × IsWithout (front ++ back) gone left

-- some of these files, in order, of each of which more may be durable
abbrev pub IsPart : List File → List File → Type 0
IsPart files part = (gone : List File) × IsWithout files gone part

-- the Maildir with these files
abbrev pub with_files : List File → Maildir → Maildir
with_files files old = record old { files = files }

-- readers were seen to have taken some files away: what is missing is what `taken` gained; and folders that are there
-- were perhaps listed, which shows what can't be opened in them
pub record WereTaken (old left : Maildir) : Type 0 where
  pub gone : List File
  pub files : IsWithout old.files gone left.files
  pub odd : old.there.new ≡ false → old.there.cur ≡ false → left.odd ≡ old.odd
  pub told : old.there.new ≡ false → left.told ≡ old.told
  pub is : left ≡ record old {
    files = left.files;
    taken = old.taken ++ gone;
    odd = left.odd;
    told = left.told;
  }

-- this holds of what readers have left since names were last told; names and bytes of other files may have been flushed
abbrev pub AfterTaking : Maildir → (Maildir → Type 0) → Type 0
AfterTaking old Does = (left : Maildir) × WereTaken old left × Does left

-- the same file, whose name may be durable by now
abbrev pub MayBeNamed : File → File → Type 0
MayBeNamed f g = (g ≡ f) ⊎ (g ≡ record f { is_named = true })

-- names of other files were flushed on the way, and this holds of what that left
abbrev pub AfterFlushing : Maildir → (Maildir → Type 0) → Type 0
AfterFlushing old Does = (risen : List File) × AllZip MayBeNamed old.files risen × Does (with_files risen old)

-- some file of `new` or `cur` has this name, with whatever marks
abbrev pub IsThere : Maildir → List ℕ → Type 0
IsThere maildir name = Contains (names_of maildir.files) (base name)

-- whether a folder is there
abbrev pub is_there : Folders → Folder → Bool
is_there there New = there.new
is_there there Cur = there.cur

-- each of the names, without its marks, is the durable name of one of the files
unfoldable pub AreTheirs : {A : Type 0} → List File → List (String A) → Type 0
AreTheirs files names = All
    (λ name. Contains (names_of (filter (λ (f : File). f.is_named) files)) (base (string_bytes name))) names

-- `names`: each name is that of some file of `new` or `cur`, whichever of the two it is in by now, and is durable
abbrev pub Lists : {A B : Type 0} → Maildir → Folder → Result (Vec (String A) B) StoreFault → Maildir → Type 0
Lists old folder (Ok names) new =
    (is_there old.there folder ≡ true) × AreTheirs old.files names.items × (new ≡ old)
Lists old folder (Err Missing) new = (is_there old.there folder ≡ false) × (new ≡ old)
Lists old folder (Err Refused) new = new ≡ maildir_refused old
Lists old folder (Err fault) new = ⊥

-- `check`: the folder is there
abbrev pub Checks : {T : Type 0} → Maildir → Folder → Result T StoreFault → Maildir → Type 0
Checks old folder (Ok done) new = (is_there old.there folder ≡ true) × (new ≡ old)
Checks old folder (Err Missing) new = (is_there old.there folder ≡ false) × (new ≡ old)
Checks old folder (Err Refused) new = new ≡ maildir_refused old
Checks old folder (Err fault) new = ⊥

-- `begin`: an empty file of this name is being written; after a fault none is
abbrev pub Begins : {T : Type 0} → Maildir → List ℕ → Result T StoreFault → Maildir → Type 0
Begins old name (Ok done) new = (old.there.tmp ≡ true) × (new ≡ record old { begun = Some (draft name []) })
Begins old name (Err Missing) new = (old.there.tmp ≡ false) × (new ≡ old)
Begins old name (Err Refused) new = new ≡ maildir_refused old
Begins old name (Err fault) new = ⊥

-- `add`: the bytes follow those of the file that is being written; a refused call leaves that file
-- begun, with any bytes
abbrev pub Adds : {T : Type 0} → Maildir → List ℕ → Result T StoreFault → Maildir → Type 0
Adds old bytes (Ok done) new =
    (d : Draft) → old.begun ≡ Some d → new ≡ record old { begun = Some (draft d.name (d.content ++ bytes)) }
Adds old bytes (Err fault) new =
    (d : Draft) → old.begun ≡ Some d
    → (content : List ℕ) × (new ≡ maildir_refused (record old { begun = Some (draft d.name content) }))

-- the file came, and its bytes are durable, but its name needn't be
abbrev pub MayHave : Maildir → File → Maildir → Type 0
MayHave old f new = (is_named : Bool) × (new ≡ maildir_refused (with_file old (record f { is_named = is_named })))

-- `settle`: what was written is there under this name, and durable; a refused call leaves it out, or there with
-- durable bytes
abbrev pub Settles : {T : Type 0} → Maildir → List ℕ → Result T StoreFault → Maildir → Type 0
Settles old name (Ok done) new =
    (d : Draft) → old.begun ≡ Some d → AfterFlushing old (λ risen. new ≡ with_file risen (mail name d.content))
Settles old name (Err fault) new =
    (d : Draft) → old.begun ≡ Some d
    → (new ≡ maildir_refused (dropped old)) ⊎ AfterFlushing old (λ risen. MayHave risen (mail name d.content) new)

-- `deliver`: the file is there and durable, or nothing changed, or, if refused, one of the two
abbrev pub Delivers : {T : Type 0} → Maildir → File → Result T StoreFault → Maildir → Type 0
Delivers old f (Ok done) new = AfterFlushing old (λ risen. new ≡ with_file risen f)
Delivers old f (Err Missing) new = (old.there.tmp ≡ false) × (new ≡ old)
Delivers old f (Err Refused) new = (new ≡ maildir_refused (dropped old))
    ⊎ AfterFlushing old (λ risen. MayHave risen f new)
Delivers old f (Err NotMbox) new = ⊥
Delivers old f (Err NoMemory) new = new ≡ old

-- all three folders are there
abbrev pub all_there : Folders
all_there = record { tmp = true; new = true; cur = true }
