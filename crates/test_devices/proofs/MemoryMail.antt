-- The folders of a Maildir in memory.
use Rattle.std.proofs.{
  Common.{◌≡◌, ◌↔◌, ◌&&◌, IsTrue, bytes_eq, inl, inr, ℕ, zero, suc, ◌<◌, Bool, true, false, not, List, [], ◌∷◌, ◌++◌, length, map, get_or},
  Common.{set, Contains, Option, Some, None, if◌then◌else◌, refl, sym, ap, ◌∙◌, arith, String, Global, string_bytes, append-nil, filter},
  Common.{option_map, true≢false},
  lemmas.{Bool.{cases_Bool, not-false}, List.Folds.list_any_at, Map.Views.Contains-from_any, Slice.Eq.bytes_eq-Decides},
}
use Rattle.std.specs.List.{find}
use Rattle.mail_terms.proofs.ListLemmas.{any_map}
use Rattle.mail_store.specs.{Loss.is_among, declared.maildir.disk.Folder.{Folder, TheVariants.{New, Cur}}, Maildir.{File, all_there}}
use Rattle.test_devices.specs.{declared.stored_mail.StoredMail.StoredMail, MemoryFolders.{MayBeLeftAs, list_of, stored_file}}
use Rattle.folder_store.specs.{
  MailFolders.{MailFile, Directories, MovesFile, RestsFile, Moved, OneMoves, is_in, is_left, name_at, rests_in},
  MailPower.EntriesLeftAs,
}

pub among_has : (names : List (String Global)) (name : List ℕ) → IsTrue (is_among names name) ↔ Contains (map string_bytes names) name
among_has names name = (
  λ is. Contains-from_any (λ x y. (bytes_eq-Decides x y).0) name (map string_bytes names) (any_map (bytes_eq name) string_bytes names ∙ is),
  λ c. sym (any_map (bytes_eq name) string_bytes names)
      ∙ list_any_at (bytes_eq name) (map string_bytes names) c.0 name c.1 ((bytes_eq-Decides name _).1 (sym c.2)),
)

-- one more file came after others
pub told_on : (f : MailFile → Bool) (ss : List MailFile) (s : MailFile)
    → map name_at (filter f (filter is_left (ss ++ s ∷ []))) ≡ map name_at (filter f (filter is_left ss))
    ++ (if is_left s && f s then s.name ∷ [] else [])
told_on f [] s = grind arith
told_on f (x ∷ ss) s = let rest = told_on f ss s in grind (arith, rest)

-- the first file that passes a test, and how many bytes it has
first_stored : (p : MailFile → Bool) (ks : List StoredMail)
    → find p (map stored_file ks) ≡ option_map stored_file (find (λ k. p (stored_file k)) ks)
first_stored p [] = refl
first_stored p (k ∷ ks) = elim (cases_Bool (p (stored_file k))) [
  | inl is ↦ rw is refl
  | inr isnt ↦ rw isnt (first_stored p ks)
]

size_of : (found : Option StoredMail)
    → option_map (λ (s : MailFile). length s.content) (option_map stored_file found)
    ≡ option_map (λ (k : StoredMail). length k.content.items) found
size_of None = refl
size_of (Some k) = refl

pub first_size : (p : MailFile → Bool) (ks : List StoredMail) (found : Option StoredMail) → found ≡ find (λ k. p (stored_file k)) ks
    → option_map (λ (k : StoredMail). length k.content.items) found
    ≡ option_map (λ (s : MailFile). length s.content) (find p (map stored_file ks))
first_size p ks found is = sym (size_of found)
    ∙ ap (λ (o : Option StoredMail). option_map (λ (s : MailFile). length s.content) (option_map stored_file o)) is
    ∙ ap (option_map (λ (s : MailFile). length s.content)) (sym (first_stored p ks))

-- ---- a loss of power

pub left_on : (ss left : List MailFile) (s : MailFile) (o : Option MailFile) → EntriesLeftAs ss left → MayBeLeftAs s o
    → EntriesLeftAs (ss ++ s ∷ []) (left ++ list_of o)
left_on [] left s None l gone = inl (gone, append-nil left ∙ l)
left_on [] left s (Some t) l is = inr (t, [], ap (λ (ts : List MailFile). ts ++ t ∷ []) l, is, refl)
left_on (x ∷ ss) left s o (inl (gone, l)) may = inl (gone, left_on ss left s o l may)
left_on (x ∷ ss) left s o (inr (t, rest, e, is, l)) may =
    inr (t, rest ++ list_of o, ap (λ (ts : List MailFile). ts ++ list_of o) e, is, left_on ss rest s o l may)

-- ---- a reader's move

-- the files before and behind a place
around : (files : List StoredMail) (i : ℕ) (x y : StoredMail) → i < length files → x ≡ get_or files i x
    → (front back : List MailFile) × (map stored_file files ≡ front ++ stored_file x ∷ back)
    × (map stored_file (set files i y) ≡ front ++ stored_file y ∷ back)
around [] i x y below is = absurd (omega (arith, below))
around (f ∷ files) zero x y below is =
    ([], map stored_file files, ap (λ (k : StoredMail). stored_file k ∷ map stored_file files) (sym is), refl)
around (f ∷ files) (suc i) x y below is =
    let (front, back, was, now) = around files i x y (omega (arith, below)) is in
    (stored_file f ∷ front, back, ap (λ (ss : List MailFile). stored_file f ∷ ss) was, ap (λ (ss : List MailFile). stored_file f ∷ ss) now)

abbrev pub memory_dirs : List StoredMail → Bool → Bool → List File → (closed odd_new odd_cur : List (List ℕ)) → Directories
memory_dirs files new_rests cur_rests taken closed odd_new odd_cur = record {
  there = all_there;
  entries = map stored_file files;
  new_rests = new_rests;
  cur_rests = cur_rests;
  taken = taken;
  closed_new = closed;
  closed_cur = closed;
  odd_new = odd_new;
  odd_cur = odd_cur;
  dirs_cur = [];
}

-- the folder rests only if it did, and the file wasn't and isn't there
abbrev Rested : Bool → Bool → Bool → Bool → Type 0
Rested now rests was is = now ≡ true → (rests ≡ true) × (was ≡ false) × (is ≡ false)

same_place : (folder : Folder) (s t : MailFile) → is_in folder s ≡ false → is_in folder t ≡ false → t.is_new ≡ s.is_new
same_place New s t was is = is ∙ sym was
same_place Cur s t was is = not-false t.is_new is ∙ sym (not-false s.is_new was)

not_in : (folder : Folder) (s t : MailFile) → is_in folder s ≡ false → is_in folder t ≡ false → RestsFile folder s t
not_in folder s t was is = record {
  place = same_place folder s t was is;
  name = λ here. absurd (true≢false (sym here ∙ was));
  gone = λ here. absurd (true≢false (sym here ∙ was));
}

pub file_moves : ((old : Directories) (front back : List MailFile) (s t : MailFile) (new : Directories)
    → OneMoves old front back s t new → Moved old new)
    → (files : List StoredMail) (i : ℕ) (x y : StoredMail) (new new' cur cur' : Bool) (taken : List File)
    (closed odd_new odd_cur : List (List ℕ)) → i < length files
    → x ≡ get_or files i x
    → MovesFile (stored_file x) (stored_file y) → Rested new' new x.is_new y.is_new → Rested cur' cur (not x.is_new) (not y.is_new)
    → Moved (memory_dirs files new cur taken closed odd_new odd_cur) (memory_dirs (set files i y) new' cur' taken closed odd_new odd_cur)
file_moves one files i x y new new' cur cur' taken closed odd_new odd_cur below is moves in_new in_cur =
    let (front, back, before, after) = around files i x y below is in
    one _ front back (stored_file x) (stored_file y) _ (record {
      there = refl;
      taken = refl;
      odd_new = refl;
      odd_cur = refl;
      dirs_cur = refl;
      before = before;
      after = after;
      moves = moves;
      rests = rests_of;
    })
  where
    rests_of : (folder : Folder) → rests_in folder (memory_dirs (set files i y) new' cur' taken closed odd_new odd_cur) ≡ true
        → (rests_in folder (memory_dirs files new cur taken closed odd_new odd_cur) ≡ true)
        × RestsFile folder (stored_file x) (stored_file y)
    rests_of New quiet = let r = in_new quiet in (r.0, not_in New (stored_file x) (stored_file y) r.1 r.2)
    rests_of Cur quiet = let r = in_cur quiet in (r.0, not_in Cur (stored_file x) (stored_file y) r.1 r.2)

-- ---- files that the reader took away

abbrev pub not_gone : StoredMail → Bool
not_gone k = not k.is_gone

pub left_files : (files : List StoredMail) → map stored_file (filter not_gone files) ≡ filter is_left (map stored_file files)
left_files [] = refl
left_files (k ∷ files) = let rest = left_files files in grind (arith, rest)
