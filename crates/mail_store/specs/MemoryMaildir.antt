-- What is known of a Maildir in memory, and what its calls do: nobody else is at work.
use Rattle.std.specs.Prelude.{
  ◌≡◌,
  ℕ,
  List,
  [],
  ◌∷◌,
  ◌++◌,
  Bool,
  true,
  false,
  Option,
  Some,
  None,
  Result,
  Ok,
  Err,
  ◌⊎◌,
  Contains,
  IsPermutation,
}
use Rattle.mail_store.specs.{
  declared.{fault.StoreFault.StoreFault, maildir.disk.Folder.{Folder, TheVariants.{New, Cur}}},
  Maildir.{Draft, File, Maildir, draft, file, mail, names_of, with_file},
}

-- what it is as a Maildir, and the files of each folder by their whole names
pub record MemoryMail : Type 0 where
  pub maildir : Maildir
  pub in_new : List File
  pub in_cur : List File

-- the files of a folder
abbrev pub files_of_folder : MemoryMail → Folder → List File
files_of_folder known New = known.in_new
files_of_folder known Cur = known.in_cur

-- a file as a Maildir shows it: without its marks
abbrev pub shown : File → File
shown f = mail f.name f.content

-- nothing changed but the count of refused calls
abbrev pub ChangesOnlyCount : MemoryMail → MemoryMail → Type 0
ChangesOnlyCount old new = new ≡ record old { maildir = record old.maildir { failures = new.maildir.failures } }

-- another file is being written, or none
abbrev pub with_begun : Option Draft → MemoryMail → MemoryMail
with_begun begun old = record old { maildir = record old.maildir { begun = begun } }

-- `begin`: an empty file of this name is being written; a refused call changes nothing
abbrev pub BeginsAlone : {T : Type 0} → MemoryMail → List ℕ → Result T StoreFault → MemoryMail → Type 0
BeginsAlone old name (Ok done) new = new ≡ with_begun (Some (draft name [])) old
BeginsAlone old name (Err fault) new = ChangesOnlyCount old new

-- `add`: the bytes follow those of the file that is being written; a refused call changes nothing
abbrev pub AddsAlone : {T : Type 0} → MemoryMail → List ℕ → Result T StoreFault → MemoryMail → Type 0
AddsAlone old bytes (Ok done) new =
    (d : Draft) → old.maildir.begun ≡ Some d → new ≡ with_begun (Some (draft d.name (d.content ++ bytes))) old
AddsAlone old bytes (Err fault) new = ChangesOnlyCount old new

-- `settle`: what was written is there under this whole name, after the others; a refused call gives it up
abbrev pub SettlesAlone : {T : Type 0} → MemoryMail → List ℕ → Result T StoreFault → MemoryMail → Type 0
SettlesAlone old name (Ok done) new = (d : Draft) → old.maildir.begun ≡ Some d
    → new ≡ record old {
      maildir = with_file old.maildir (mail name d.content);
      in_new = old.in_new ++ file name d.content ∷ [];
    }
SettlesAlone old name (Err fault) new = ChangesOnlyCount (with_begun None old) new

-- ---- what it does in a reader's place

-- a file of this name left `new` for `cur`, where it has another name, which no file had there; as a Maildir it has the
-- same files
pub record IsMoved (old : MemoryMail) (name moved : List ℕ) (new : MemoryMail) : Type 0 where
  pub front : List File
  pub content : List ℕ
  pub back : List File
  pub was : old.in_new ≡ front ++ file name content ∷ back
  pub free : Contains (names_of old.in_cur) moved → ⊥
  pub same : IsPermutation old.maildir.files new.maildir.files
  pub is : new ≡ record old {
    maildir = record old.maildir { files = new.maildir.files };
    in_new = front ++ back;
    in_cur = old.in_cur ++ file moved content ∷ [];
  }

-- `move_to_cur`: it was moved; no file of `new` has the name, or one of `cur` has the name that would result; or memory
-- ran out
abbrev pub MovesToCur : {E : Type 0} → MemoryMail → List ℕ → List ℕ → Result Bool E → MemoryMail → Type 0
MovesToCur old name moved (Ok true) new = IsMoved old name moved new
MovesToCur old name moved (Ok false) new =
    (new ≡ old) × ((Contains (names_of old.in_new) name → ⊥) ⊎ Contains (names_of old.in_cur) moved)
MovesToCur old name moved (Err fault) new = new ≡ old
