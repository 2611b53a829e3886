-- A listing of all files that are there, one more at a time.
use Rattle.std.{
  proofs.Common.{◌≡◌, ◌≢◌, ◌⊎◌, ◌<◌, ◌≤◌, ◌+◌, ◌&&◌, ◌||◌, ◌∙◌, ◌++◌, ◌∷◌, [], ℕ, Bool, true, false, List, Option, Some, None},
  proofs.Common.{All, Contains, ap, append-nil, arith, drop, get_or, inl, inr, length, map, not, refl, subst, sym, take, zero, suc, ⊎_elim},
  proofs.lemmas.{
    Bool.{cond_both, cond-true, cond-false, false≢true},
    List.{length-map, length_push, map-append, map_push, take-append-drop, take-append-le, take-map, take_all},
    List.Elements.{All-push, Contains-append_left, Contains-get_or, Contains-push, Contains-push_cases, filter-append},
    Map.Views.any-filter_same,
    Slice.Eq.bytes_eq-Decides,
  },
  proofs.Math.{ListN.get_or-append, Seq.{get_or-append_seam, take-append_seam}},
  specs.{List.{filter, list_any}, Prelude.bytes_eq},
}
use Rattle.mail_terms.specs.MaildirName.{base}
use Rattle.pop3_server.specs.{Maildrop.max_count, Size.size_of}
use Rattle.folder_drop.specs.{
  declared.{
    listed_file.ListedFile.ListedFile,
    maildir_names.{Folder.Folder, PlacedFile.PlacedFile, Stamp.Stamp},
  },
  Listing.listed_ids,
  MaildirMail.{chosen, listed_entry, first_of_ids, is_fit, told_of, uid_in},
  MailFiles.{DropFile, file_place},
  MaildirNames.id_of,
  Places.{base_of_file, folder_and_name},
  RealMaildir.{id_of_name, listed_name, listed_place},
}

abbrev same_id : DropFile → DropFile → Bool
same_id a b = bytes_eq (uid_in a) (uid_in b)

abbrev differs : DropFile → DropFile → Bool
differs a b = not (same_id a b)

-- ---- the first of each id, one more at a time

filter_one : (p : DropFile → Bool) (x : DropFile) → p x ≡ false → filter p (x ∷ []) ≡ []
filter_one p x e = cond-false (p x) (x ∷ filter p []) (filter p []) e

filter_this : (p : DropFile → Bool) (x : DropFile) → p x ≡ true → filter p (x ∷ []) ≡ x ∷ []
filter_this p x e = cond-true (p x) (x ∷ filter p []) (filter p []) e

not_true : (b : Bool) → b ≡ true → not b ≡ false
not_true true e = refl
not_true false e = absurd (false≢true e)

not_false : (b : Bool) → b ≡ false → not b ≡ true
not_false false e = refl
not_false true e = absurd (false≢true (sym e))

any_cases : (b : Bool) → (b ≡ true) ⊎ (b ≡ false)
any_cases true = inl refl
any_cases false = inr refl

same_turned : (x y : DropFile) → same_id x y ≡ true → same_id y x ≡ true
same_turned x y e = (bytes_eq-Decides (uid_in y) (uid_in x)).1 (sym ((bytes_eq-Decides (uid_in x) (uid_in y)).0 e))

-- if x's id isn't that of y, no file with x's id is left out with those of y's
kept_any : (x y : DropFile) (files : List DropFile) → same_id x y ≡ false → list_any (same_id x) (filter (differs y) files) ≡ list_any
    (same_id x) files
kept_any x y files other = any-filter_same (same_id x) (differs y) true (λ k same. not_false (same_id y k)
    (⊎_elim (λ yes. absurd (false≢true (sym other ∙ (bytes_eq-Decides (uid_in x) (uid_in y)).1
    ((bytes_eq-Decides (uid_in x) (uid_in k)).0 same ∙ sym ((bytes_eq-Decides (uid_in y) (uid_in k)).0 yes))))) (λ no. no)
    (any_cases (same_id y k)))) files

any_cons : (x y : DropFile) (files : List DropFile) → same_id x y ≡ false
    → list_any (same_id x) (y ∷ files) ≡ list_any (same_id x) files
any_cons x y files other = ap (λ (b : Bool). b || list_any (same_id x) files) other

any_here : (x y : DropFile) (files : List DropFile) → same_id x y ≡ true → list_any (same_id x) (y ∷ files) ≡ true
any_here x y files same = ap (λ (b : Bool). b || list_any (same_id x) files) same

-- a file whose id one of them has comes to nothing, any other one is added
abbrev pub Adds : List DropFile → DropFile → Type 0
Adds xs x = (list_any (same_id x) (first_of_ids xs) ≡ true → first_of_ids (xs ++ x ∷ []) ≡ first_of_ids xs)
    × (list_any (same_id x) (first_of_ids xs) ≡ false → first_of_ids (xs ++ x ∷ []) ≡ first_of_ids xs ++ x ∷ [])

-- the id of y leaves out x
left_out : (x y : DropFile) (xs : List DropFile) → same_id x y ≡ true → Adds xs x
    → filter (differs y) (first_of_ids (xs ++ x ∷ [])) ≡ filter (differs y) (first_of_ids xs)
left_out x y xs same adds = ⊎_elim (λ any. ap (filter (differs y)) (adds.0 any))
    (λ none. ap (filter (differs y)) (adds.1 none) ∙ filter-append (differs y) (first_of_ids xs) (x ∷ [])
    ∙ ap (λ (l : List DropFile). filter (differs y) (first_of_ids xs) ++ l)
    (filter_one (differs y) x (not_true (same_id y x) (same_turned x y same))) ∙ append-nil (filter (differs y) (first_of_ids xs)))
    (any_cases (list_any (same_id x) (first_of_ids xs)))

adds_same : (x y : DropFile) (ys : List DropFile) → Adds ys x → list_any (same_id x) (first_of_ids (y ∷ ys)) ≡ true
    → first_of_ids ((y ∷ ys) ++ x ∷ []) ≡ first_of_ids (y ∷ ys)
adds_same x y ys adds any = ⊎_elim (λ same. ap (λ (l : List DropFile). y ∷ l) (left_out x y ys same adds))
    (λ other. ap (λ (l : List DropFile). y ∷ filter (differs y) l) (adds.0
    (sym (kept_any x y (first_of_ids ys) other) ∙ sym (any_cons x y (filter (differs y) (first_of_ids ys)) other) ∙ any)))
    (any_cases (same_id x y))

adds_more : (x y : DropFile) (ys : List DropFile) → Adds ys x → list_any (same_id x) (first_of_ids (y ∷ ys)) ≡ false
    → first_of_ids ((y ∷ ys) ++ x ∷ []) ≡ first_of_ids (y ∷ ys) ++ x ∷ []
adds_more x y ys adds none = ⊎_elim
    (λ same. absurd (false≢true (sym none ∙ any_here x y (filter (differs y) (first_of_ids ys)) same)))
    (λ other.
    let rest : list_any (same_id x) (first_of_ids ys) ≡ false = sym (kept_any x y (first_of_ids ys) other)
    ∙ sym (any_cons x y (filter (differs y) (first_of_ids ys)) other) ∙ none in
    let turned : same_id y x ≡ false = ⊎_elim (λ yes. absurd (false≢true (sym other ∙ same_turned y x yes))) (λ no. no)
    (any_cases (same_id y x)) in
    ap (λ (l : List DropFile). y ∷ filter (differs y) l) (adds.1 rest)
    ∙ ap (λ (l : List DropFile). y ∷ l) (filter-append (differs y) (first_of_ids ys) (x ∷ [])
    ∙ ap (λ (l : List DropFile). filter (differs y) (first_of_ids ys) ++ l)
    (filter_this (differs y) x (not_false (same_id y x) turned)))) (any_cases (same_id x y))

pub adds_one : (xs : List DropFile) (x : DropFile) → Adds xs x
adds_one [] x = (λ any. absurd (false≢true any), λ none. refl)
adds_one (y ∷ ys) x = (adds_same x y ys (adds_one ys x), adds_more x y ys (adds_one ys x))

-- the first of each id in a front are a front of those of all
pub firsts_front : (xs ys : List DropFile) → (more : List DropFile) × (first_of_ids (xs ++ ys) ≡ first_of_ids xs ++ more)
firsts_front [] ys = (first_of_ids ys, refl)
firsts_front (x ∷ xs) ys =
    let rest = firsts_front xs ys in (
      filter (differs x) rest.0,
      ap (λ (l : List DropFile). x ∷ filter (differs x) l) rest.1
          ∙ ap (λ (l : List DropFile). x ∷ l) (filter-append (differs x) (first_of_ids xs) rest.0),
    )

-- ---- ids of what is listed

abbrev uid_of_told : (Folder × List ℕ) × Stamp × ℕ → List ℕ
uid_of_told told = id_of_name told.0.1

ids_told : (listed : List ListedFile) → listed_ids listed ≡ map uid_of_told (map listed_entry listed)
ids_told [] = refl
ids_told (l ∷ ls) = ap (λ (ids : List (List ℕ)). id_of_name (listed_name l) ∷ ids) (ids_told ls)

ids_of_files : (files : List DropFile) → map uid_of_told (map told_of files) ≡ map uid_in files
ids_of_files [] = refl
ids_of_files (f ∷ fs) = ap (λ (ids : List (List ℕ)). uid_in f ∷ ids) (ids_of_files fs)

pub ids_same : (listed : List ListedFile) (files : List DropFile) → map listed_entry listed ≡ map told_of files
    → listed_ids listed ≡ map uid_in files
ids_same listed files e = ids_told listed ∙ ap (map uid_of_told) e ∙ ids_of_files files

contains_cons : (y : List ℕ) (ys : List (List ℕ)) (x : List ℕ) → Contains (y ∷ ys) x → (y ≡ x) ⊎ Contains ys x
contains_cons y ys x (zero, fits, e) = inl e
contains_cons y ys x (suc k, fits, e) = inr (k, omega (arith, fits), e)

pub any_listed : (files : List DropFile) (x : DropFile) → Contains (map uid_in files) (uid_in x) → list_any (same_id x) files ≡ true
any_listed [] x there = absurd (omega (arith, there.1))
any_listed (y ∷ ys) x there = ⊎_elim
    (λ is. any_here x y ys ((bytes_eq-Decides (uid_in x) (uid_in y)).1 (sym is)))
    (λ later. ⊎_elim (λ same. any_here x y ys same) (λ other. any_cons x y ys other ∙ any_listed ys x later)
    (any_cases (same_id x y))) (contains_cons (uid_in y) (map uid_in ys) (uid_in x) there)

contains_more : (y : List ℕ) (ys : List (List ℕ)) (x : List ℕ) → Contains ys x → Contains (y ∷ ys) x
contains_more y ys x there = (suc there.0, omega (arith, there.1), there.2)

pub listed_any : (files : List DropFile) (x : DropFile) → list_any (same_id x) files ≡ true → Contains (map uid_in files) (uid_in x)
listed_any [] x any = absurd (false≢true any)
listed_any (y ∷ ys) x any = ⊎_elim
    (λ same. (0, omega arith, sym ((bytes_eq-Decides (uid_in x) (uid_in y)).0 same)))
    (λ other. contains_more (uid_in y) (map uid_in ys) (uid_in x) (listed_any ys x (sym (any_cons x y ys other) ∙ any)))
    (any_cases (same_id x y))

pub entry_same : (l : ListedFile) (f : DropFile) → listed_place l ≡ file_place f → l.stamp ≡ f.stamp → l.size ≡ size_of f.content
    → listed_entry l ≡ told_of f
entry_same l f place stamp size = rw (place, stamp, size) refl

-- the id of a file that is listed is that of what is in its place
pub id_there : (listed : List ListedFile) (placed : PlacedFile) (f : DropFile) → folder_and_name placed ≡ file_place f
    → Contains (listed_ids listed) (id_of (base_of_file placed)) → Contains (listed_ids listed) (uid_in f)
id_there listed placed f place had = subst (λ (id : List ℕ). Contains (listed_ids listed) id)
    (ap (λ (p : Folder × List ℕ). id_of (base p.1)) place) had

-- ---- one more file that was found

-- whatever files were found, those of them that are to be listed are
abbrev pub ListsSo : List DropFile → List PlacedFile → List ListedFile → Type 0
ListsSo files found listed = (model : List DropFile) → All (λ (file : DropFile). Contains files file) model
    → map folder_and_name found ≡ map file_place model → map listed_entry listed ≡ map told_of (first_of_ids (filter is_fit model))

pub ListsSo-none : (files : List DropFile) → ListsSo files [] []
ListsSo-none files [] all e = refl
ListsSo-none files (f ∷ fs) all e = absurd (let long : 0 ≡ suc (length (map file_place fs)) = ap length e in omega (arith, long))

abbrev tail_of : List (Folder × List ℕ) → List (Folder × List ℕ)
tail_of [] = []
tail_of (x ∷ xs) = xs

-- what a list ends with
last_of : (before : List PlacedFile) (file : PlacedFile) (model : List DropFile)
    → map folder_and_name (before ++ file ∷ []) ≡ map file_place model
    → (front : List DropFile) × (last : DropFile) × (model ≡ front ++ last ∷ [])
    × (map folder_and_name before ≡ map file_place front) × (folder_and_name file ≡ file_place last)
last_of [] file [] e = absurd (let long : 1 ≡ 0 = ap length e in omega (arith, long))
last_of [] file (m ∷ []) e = ([], m, refl, refl, ap (λ (l : List (Folder × List ℕ)). get_or l 0 (file_place m)) e)
last_of [] file (m ∷ n ∷ ms) e = absurd (let long : 1 ≡ suc (suc (length (map file_place ms))) = ap length e in omega (arith, long))
last_of (b ∷ bs) file [] e = absurd (let long : suc (length (map folder_and_name (bs ++ file ∷ []))) ≡ 0 = ap length e in omega
    (arith, long))
last_of (b ∷ bs) file (m ∷ ms) e =
    let rest = last_of bs file ms (ap tail_of e) in
    let first : folder_and_name b ≡ file_place m = ap (λ (l : List (Folder × List ℕ)). get_or l 0 (file_place m)) e in (
      m ∷ rest.0,
      rest.1,
      ap (λ (l : List DropFile). m ∷ l) rest.2,
      ap (λ (p : Folder × List ℕ). p ∷ map folder_and_name bs) first ∙ ap
          (λ (l : List (Folder × List ℕ)). file_place m ∷ l) rest.3,
      rest.4,
    )

all_front : (P : DropFile → Type 0) (front : List DropFile) (last : DropFile) → All P (front ++ last ∷ []) → All P front
all_front P front last all = λ k d fits. subst P (get_or-append front (last ∷ []) d k fits)
    (all k d (omega (arith, fits, length_push front last)))

all_last : (P : DropFile → Type 0) (front : List DropFile) (last : DropFile) → All P (front ++ last ∷ []) → P last
all_last P front last all = subst P (get_or-append_seam front last [] last)
    (all (length front) last (omega (arith, length_push front last)))

-- one that isn't fit, or whose id is listed
pub ListsSo-same : (files : List DropFile) (found : List PlacedFile) (file : PlacedFile) (listed : List ListedFile)
    → ((f : DropFile) → Contains files f → folder_and_name file ≡ file_place f → (is_fit f ≡ false) ⊎ Contains (listed_ids listed)
    (uid_in f))
    → ListsSo files found listed → ListsSo files (found ++ file ∷ []) listed
ListsSo-same files found file listed same before model all e =
    let parts = last_of found file model e in
    let front = parts.0 in
    let last = parts.1 in
    let every = subst (λ (m : List DropFile). All (λ (f : DropFile). Contains files f) m) parts.2 all in
    let so = before front (all_front (λ (f : DropFile). Contains files f) front last every) parts.3 in
    let whole = filter-append is_fit front (last ∷ []) in
    so ∙ ap (map told_of) (⊎_elim
    (λ unfit. sym (ap first_of_ids (whole ∙ ap (λ (l : List DropFile). filter is_fit front ++ l) (filter_one is_fit last unfit)
    ∙ append-nil (filter is_fit front))))
    (λ had. ⊎_elim
    (λ fit. sym (ap first_of_ids (whole ∙ ap (λ (l : List DropFile). filter is_fit front ++ l) (filter_this is_fit last fit))
    ∙ (adds_one (filter is_fit front) last).0 (any_listed (first_of_ids (filter is_fit front)) last
    (subst (λ (ids : List (List ℕ)). Contains ids (uid_in last)) (ids_same listed (first_of_ids (filter is_fit front)) so) had))))
    (λ unfit. sym (ap first_of_ids (whole ∙ ap (λ (l : List DropFile). filter is_fit front ++ l) (filter_one is_fit last unfit)
    ∙ append-nil (filter is_fit front))))
    (any_cases (is_fit last)))
    (same last (all_last (λ (f : DropFile). Contains files f) front last every) parts.4)
    ∙ sym (ap (λ (m : List DropFile). first_of_ids (filter is_fit m)) parts.2))

-- one that is listed
pub ListsSo-more : (files : List DropFile) (found : List PlacedFile) (file : PlacedFile) (listed : List ListedFile) (new : ListedFile)
    → ((f : DropFile) → Contains files f → folder_and_name file ≡ file_place f → (is_fit f ≡ true) × (listed_entry new ≡ told_of f)
    × (Contains (listed_ids listed) (uid_in f) → ⊥))
    → ListsSo files found listed → ListsSo files (found ++ file ∷ []) (listed ++ new ∷ [])
ListsSo-more files found file listed new more before model all e =
    let parts = last_of found file model e in
    let front = parts.0 in
    let last = parts.1 in
    let every = subst (λ (m : List DropFile). All (λ (f : DropFile). Contains files f) m) parts.2 all in
    let so = before front (all_front (λ (f : DropFile). Contains files f) front last every) parts.3 in
    let is = more last (all_last (λ (f : DropFile). Contains files f) front last every) parts.4 in
    let fits = filter is_fit front in
    let none : list_any (same_id last) (first_of_ids fits) ≡ false = ⊎_elim
    (λ any. absurd (is.2 (subst (λ (ids : List (List ℕ)). Contains ids (uid_in last)) (sym (ids_same listed (first_of_ids fits) so))
    (listed_any (first_of_ids fits) last any)))) (λ no. no) (any_cases (list_any (same_id last) (first_of_ids fits))) in
    map_push listed_entry listed new ∙ rw (so, is.1) refl ∙ sym (map_push told_of (first_of_ids fits) last)
    ∙ ap (map told_of) (sym ((adds_one fits last).1 none)
    ∙ sym (ap first_of_ids (filter-append is_fit front (last ∷ []) ∙ ap (λ (l : List DropFile). fits ++ l) (filter_this is_fit last is.0)))
    ∙ sym (ap (λ (m : List DropFile). first_of_ids (filter is_fit m)) parts.2))

-- all were found
pub chosen_all : (files : List DropFile) (found : List PlacedFile) (listed : List ListedFile) → length listed ≤ max_count
    → map folder_and_name found ≡ map file_place files → ListsSo files found listed → map listed_entry listed ≡ map told_of (chosen files)
chosen_all files found listed few e so =
    let is = so files (λ k d fits. Contains-get_or files k d fits) e in
    let long : length listed ≡ length (first_of_ids (filter is_fit files)) = sym (length-map listed listed_entry) ∙ ap length is
    ∙ length-map (first_of_ids (filter is_fit files)) told_of in
    is ∙ ap (map told_of) (sym (take_all max_count (first_of_ids (filter is_fit files)) (omega (arith, long, few))))

-- as many were found as may be listed
pub chosen_full : (files : List DropFile) (found rest : List PlacedFile) (listed : List ListedFile) → length listed ≡ max_count
    → map folder_and_name (found ++ rest) ≡ map file_place files → ListsSo files found listed
    → map listed_entry listed ≡ map told_of (chosen files)
chosen_full files found rest listed full e so =
    let n = length found in
    let front = take n files in
    let back = drop n files in
    let halves : front ++ back ≡ files = take-append-drop n files in
    let same : map folder_and_name found ≡ map file_place front = sym (take-append_seam (map folder_and_name found)
    (map folder_and_name rest))
    ∙ ap (take (length (map folder_and_name found))) (sym (map-append folder_and_name found rest) ∙ e)
    ∙ ap (λ (k : ℕ). take k (map file_place files)) (length-map found folder_and_name) ∙ take-map file_place n files in
    let is = so front (λ k d within. subst (λ (l : List DropFile). Contains l (get_or front k d)) halves
    (Contains-append_left front back (get_or front k d) (Contains-get_or front k d within))) same in
    let fits = filter is_fit front in
    let long : length (first_of_ids fits) ≡ max_count = sym (length-map (first_of_ids fits) told_of) ∙ sym (ap length is) ∙ length-map
    listed listed_entry ∙ full in
    let more = firsts_front fits (filter is_fit back) in
    is ∙ ap (map told_of) (sym (take_all max_count (first_of_ids fits) (omega (arith, long)))
    ∙ sym (take-append-le max_count (first_of_ids fits) more.0 (omega (arith, long))) ∙ ap (take max_count) (sym more.1)
    ∙ ap (λ (l : List DropFile). take max_count (first_of_ids l)) (sym (filter-append is_fit front back) ∙ ap (filter is_fit) halves))
