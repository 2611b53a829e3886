-- Of files that are known by their paths, those in one folder: what changes of them are by their names.
use Rattle.std.proofs.{
  Common.{◌≡◌, ℕ, refl, List, [], ◌∷◌, ◌++◌, cond, sym, ap, subst, ◌∙◌, Bool, true, false, Option, Some, None, bytes_eq},
  Common.{Result, Ok, Err, is_some, true≢false, inl, inr, ◌⊎◌, ◌&&◌, eqb},
  lemmas.{Slice.Eq.bytes_eq-Decides, Option.same_Some, Bool.{Decides.Decides-eqb, cases_Bool, cond-true, cond-false, cond_both}},
}
use Rattle.mail_store.specs.{declared.fault.StoreFault.StoreFault, Durable.Blob}
use Rattle.folder_store.specs.FileFolder.{
  Directory,
  DirEntry,
  MadeFile,
  Older,
  entry,
  find,
  placed,
  put_in,
  with_blob,
  blob_made,
  names_flushed,
  Alters,
  AltersInPart,
}
use Rattle.folder_store.specs.Under.{after, under, entry_under, older_under, older_entry_under, directory_under}

eqb_same : (x : ℕ) → eqb x x ≡ true
eqb_same x = (Decides-eqb x x).1 refl

-- ---- what comes after a front

pub after_front : (front name : List ℕ) → after front (front ++ name) ≡ Some name
after_front [] name = refl
after_front (x ∷ front) name = cond-true (eqb x x) (after front (front ++ name)) None (eqb_same x) ∙ after_front front name

pub only_after : (front path name : List ℕ) → after front path ≡ Some name → path ≡ front ++ name
only_after [] path name e = same_Some path name e
only_after (x ∷ front) [] name e = absurd (true≢false (sym (ap is_some e)))
only_after (x ∷ front) (y ∷ path) name e = cond_both (eqb x y) (after front path) None (λ (o : Option (List ℕ)). o ≡ Some name
    → y ∷ path ≡ x ∷ (front ++ name))
    (λ same e. ap (λ (z : ℕ). z ∷ path) (sym ((Decides-eqb x y).0 same)) ∙ ap (λ (zs : List ℕ). x ∷ zs) (only_after front path name e))
    (λ apart e. absurd (true≢false (sym (ap is_some e)))) e

bytes_eq_front : (front xs ys : List ℕ) → bytes_eq (front ++ xs) (front ++ ys) ≡ bytes_eq xs ys
bytes_eq_front [] xs ys = refl
bytes_eq_front (x ∷ front) xs ys = ap (λ (v : Bool). v && bytes_eq (front ++ xs) (front ++ ys)) (eqb_same x) ∙ bytes_eq_front front xs ys

-- a path that isn't in the folder is no file's of it
differs : (front name path : List ℕ) → after front path ≡ None → bytes_eq (front ++ name) path ≡ false
differs front name path lacks = elim (cases_Bool (bytes_eq (front ++ name) path)) [
  | inl same ↦ let clash : None ≡ Some name = sym lacks ∙ ap (after front) (sym ((bytes_eq-Decides (front ++ name) path).0 same))
      ∙ after_front front name in absurd (true≢false (sym (ap is_some clash)))
  | inr apart ↦ apart
]

-- ---- files

find_step : (front name : List ℕ) (e : DirEntry) (es : List DirEntry) (o : Option (List ℕ)) → after front e.name ≡ o
    → find (front ++ name) es ≡ find name (under front es)
    → find (front ++ name) (e ∷ es) ≡ find name (entry_under o e (under front es))
find_step front name e es None lacks later = cond-false (bytes_eq (front ++ name) e.name) (Some e.blob) (find (front ++ name) es)
    (differs front name e.name lacks) ∙ later
find_step front name e es (Some n) at later =
    ap (λ (path : List ℕ). cond (bytes_eq (front ++ name) path) (Some e.blob) (find (front ++ name) es)) (only_after front e.name n at)
    ∙ ap (λ (v : Bool). cond v (Some e.blob) (find (front ++ name) es)) (bytes_eq_front front name n)
    ∙ ap (λ (r : Option Blob). cond (bytes_eq name n) (Some e.blob) r) later

pub find_under : (front name : List ℕ) (es : List DirEntry) → find (front ++ name) es ≡ find name (under front es)
find_under front name [] = refl
find_under front name (e ∷ es) = find_step front name e es (after front e.name) refl (find_under front name es)

placed_step : (front name : List ℕ) (b : Blob) (e : DirEntry) (es : List DirEntry) (o : Option (List ℕ)) → after front e.name ≡ o
    → under front (placed (front ++ name) b es) ≡ placed name b (under front es)
    → under front (placed (front ++ name) b (e ∷ es)) ≡ placed name b (entry_under o e (under front es))
placed_step front name b e es None lacks later =
    ap (under front) (cond-false (bytes_eq (front ++ name) e.name) (entry (front ++ name) b ∷ es) (e ∷ placed (front ++ name) b es)
    (differs front name e.name lacks))
    ∙ ap (λ (o : Option (List ℕ)). entry_under o e (under front (placed (front ++ name) b es))) lacks
    ∙ later
placed_step front name b e es (Some n) at later =
    ap (λ (path : List ℕ). under front
    (cond (bytes_eq (front ++ name) path) (entry (front ++ name) b ∷ es) (e ∷ placed (front ++ name) b es)))
    (only_after front e.name n at)
    ∙ ap (λ (v : Bool). under front (cond v (entry (front ++ name) b ∷ es) (e ∷ placed (front ++ name) b es))) (bytes_eq_front front name n)
    ∙ by (bytes_eq name n)
  where
    by : (v : Bool) → under front (cond v (entry (front ++ name) b ∷ es) (e ∷ placed (front ++ name) b es))
        ≡ cond v (entry name b ∷ under front es) (entry n e.blob ∷ placed name b (under front es))
    by true = ap (λ (o : Option (List ℕ)). entry_under o (entry (front ++ name) b) (under front es)) (after_front front name)
    by false = ap (λ (o : Option (List ℕ)). entry_under o e (under front (placed (front ++ name) b es))) at
        ∙ ap (λ (xs : List DirEntry). entry n e.blob ∷ xs) later

pub placed_under : (front name : List ℕ) (b : Blob) (es : List DirEntry)
    → under front (placed (front ++ name) b es) ≡ placed name b (under front es)
placed_under front name b [] = ap (λ (o : Option (List ℕ)). entry_under o (entry (front ++ name) b) []) (after_front front name)
placed_under front name b (e ∷ es) = placed_step front name b e es (after front e.name) refl (placed_under front name b es)

-- ---- what names led to

older_put_under : (front name : List ℕ) (was : Option Blob) (os : List Older)
    → older_under front (record { name = front ++ name; was = was } ∷ os) ≡ record { name = name; was = was } ∷ older_under front os
older_put_under front name was os = ap
    (λ (o : Option (List ℕ)). older_entry_under o (record { name = front ++ name; was = was }) (older_under front os))
    (after_front front name)

-- ---- the folder

pub put_under : (front name : List ℕ) (file : MadeFile) (d : Directory)
    → directory_under front (put_in d file (front ++ name)) ≡ put_in (directory_under front d) file name
put_under front name file d =
    ap (λ (es : List DirEntry). record
    (directory_under front d)
    { entries = es; older = older_under front (record { name = front ++ name; was = find (front ++ name) d.entries } ∷ d.older) })
    (placed_under front name (blob_made file) d.entries)
    ∙ ap (λ (os : List Older). record
    (directory_under front d) { entries = placed name (blob_made file) (under front d.entries); older = os }) (
    older_put_under front name (find (front ++ name) d.entries) d.older
    ∙ ap (λ (was : Option Blob). record { name = name; was = was } ∷ older_under front d.older) (find_under front name d.entries))

pub with_under : (front name : List ℕ) (b : Blob) (d : Directory)
    → directory_under front (with_blob d (front ++ name) b) ≡ with_blob (directory_under front d) name b
with_under front name b d = ap (λ (es : List DirEntry). record (directory_under front d) { entries = es })
    (placed_under front name b d.entries)

pub alters_under : {R : Blob → Blob → Type 0} → (front name : List ℕ) (old new : Directory) → Alters R old (front ++ name) new
    → Alters R (directory_under front old) name (directory_under front new)
alters_under front name old new (b, c, at, is, e) =
    (b, c, sym (find_under front name old.entries) ∙ at, is, ap (directory_under front) e ∙ with_under front name c old)
