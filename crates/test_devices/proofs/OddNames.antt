-- Names of what can't be opened beside those of files.
use Rattle.std.{
  proofs.Common.{◌≡◌, ◌++◌, ℕ, Bool, true, false, not, List, [], ◌∷◌, ap, ap₂, refl, subst, bytes_eq, filter, map, Option, Global, String},
  proofs.Common.{IsPermutation, string_bytes, sym},
  proofs.lemmas.List.Sorted.IsPermutation-refl,
  proofs.lemmas.{Iterator.YieldsList, List.map-append, Bool.{or_left, or_right}, Slice.Eq.bytes_eq-Decides, Map.Views.any-filter_same},
  specs.{Iterator.AlwaysYields, List.AllZip},
}
use Rattle.mail_store.specs.declared.maildir.disk.Folder.{Folder, TheVariants.{New, Cur}}
use Rattle.mail_terms.specs.UniqueId.{has_id}
use Rattle.folder_store.specs.{MailCalls.{file_names, odd_names}, MailFolders.{Directories, closed_in}}

-- the names in front pass the test, and the others don't
filter_leaves_front : (p : List ℕ → Bool) (xs ys : List (List ℕ)) → ((x : List ℕ) → has_id xs x ≡ true → p x ≡ true)
    → ((y : List ℕ) → has_id ys y ≡ true → p y ≡ false) → filter p (xs ++ ys) ≡ xs
filter_leaves_front p [] [] pass fail = refl
filter_leaves_front p [] (y ∷ ys) pass fail = rw (fail y (or_left (bytes_eq y y) (has_id ys y) ((bytes_eq-Decides y y).1 refl)))
    (filter_leaves_front p [] ys pass (λ z is. fail z (or_right (bytes_eq z y) (has_id ys z) is)))
filter_leaves_front p (x ∷ xs) ys pass fail = rw (pass x (or_left (bytes_eq x x) (has_id xs x) ((bytes_eq-Decides x x).1 refl)))
    (ap (λ (zs : List (List ℕ)). x ∷ zs) (filter_leaves_front p xs ys (λ z is. pass z (or_right (bytes_eq z x) (has_id xs z) is)) fail))

beside : (files obstacles : List (List ℕ)) → file_names (file_names files obstacles) (files ++ file_names files obstacles) ≡ files
beside files obstacles = filter_leaves_front (λ x. not (has_id (file_names files obstacles) x)) files (file_names files obstacles)
    (λ x is. ap not (any-filter_same (bytes_eq x) (λ y. not (has_id files y)) false
    (λ y same. subst (λ z. not (has_id files z) ≡ false) ((bytes_eq-Decides x y).0 same) (ap not is)) obstacles))
    (λ x is. ap not is)

-- the names in front fail the test, and the others pass
back_passes : (p : List ℕ → Bool) (xs ys : List (List ℕ)) → ((x : List ℕ) → has_id xs x ≡ true → p x ≡ false)
    → ((y : List ℕ) → has_id ys y ≡ true → p y ≡ true) → filter p (xs ++ ys) ≡ ys
back_passes p [] [] fail pass = refl
back_passes p [] (y ∷ ys) fail pass = rw (pass y (or_left (bytes_eq y y) (has_id ys y) ((bytes_eq-Decides y y).1 refl)))
    (ap (λ (zs : List (List ℕ)). y ∷ zs) (back_passes p [] ys fail (λ z is. pass z (or_right (bytes_eq z y) (has_id ys z) is))))
back_passes p (x ∷ xs) ys fail pass = rw (fail x (or_left (bytes_eq x x) (has_id xs x) ((bytes_eq-Decides x x).1 refl)))
    (back_passes p xs ys (λ z is. fail z (or_right (bytes_eq z x) (has_id xs z) is)) pass)

odd_beside : (files obstacles : List (List ℕ)) → odd_names (file_names files obstacles) (files ++ file_names files obstacles)
    ≡ file_names files obstacles
odd_beside files obstacles = back_passes (has_id (file_names files obstacles)) files (file_names files obstacles)
    (λ x is. any-filter_same (bytes_eq x) (λ y. not (has_id files y)) false
    (λ y same. subst (λ z. not (has_id files z) ≡ false) ((bytes_eq-Decides x y).0 same) (ap not is)) obstacles) (λ x is. is)

cloned : (xs ys : List (String Global)) → AllZip (λ x y. string_bytes y ≡ string_bytes x) xs ys → map string_bytes ys ≡ map string_bytes xs
cloned [] [] same = refl
cloned [] (y ∷ ys) same = absurd same
cloned (x ∷ xs) [] same = absurd same
cloned (x ∷ xs) (y ∷ ys) same = ap₂ (λ (z : List ℕ) zs. z ∷ zs) same.0 (cloned xs ys same.1)

-- the names of files, once copies of the others were put behind them
pub told_beside : (files odd copies told : List (String Global)) (obstacles : List (List ℕ))
    → map string_bytes odd ≡ file_names (map string_bytes files) obstacles → AllZip (λ x y. string_bytes y ≡ string_bytes x) odd copies
    → told ≡ files ++ copies → file_names (map string_bytes odd) (map string_bytes told) ≡ map string_bytes files
told_beside files odd copies told obstacles others same all = rw (
  all,
  map-append (string_bytes {Z = Global}) files copies,
  cloned odd copies same,
  others,
) (beside (map string_bytes files) obstacles)

-- and the odd ones
pub odd_told : (files odd copies told : List (String Global)) (obstacles : List (List ℕ))
    → map string_bytes odd ≡ file_names (map string_bytes files) obstacles
    → AllZip (λ x y. string_bytes y ≡ string_bytes x) odd copies → told ≡ files ++ copies
    → IsPermutation (map string_bytes odd) (odd_names (map string_bytes odd) (map string_bytes told))
odd_told files odd copies told obstacles others same all =
    let shown : odd_names (map string_bytes odd) (map string_bytes told) ≡ map string_bytes odd =
    rw (all, map-append (string_bytes {Z = Global}) files copies, cloned odd copies same, others)
    (odd_beside (map string_bytes files) obstacles) in
    subst (IsPermutation (map string_bytes odd)) (sym shown) (IsPermutation-refl (map string_bytes odd))

pub closed_are : (folder : Folder) (d : Directories) (obstacles : List (List ℕ)) → d.closed_new ≡ obstacles → d.closed_cur ≡ obstacles
    → closed_in folder d ≡ obstacles
closed_are New d obstacles new cur = new
closed_are Cur d obstacles new cur = cur

-- a chain gives what is read of each item
pub read_each : {S A B : Type 0} {steps : S → Option A → S → Type 0} (read : A → B) {s : S} {xs : List A}
    → YieldsList steps (λ x. x) s xs → YieldsList steps read s (map read xs)
read_each {S} {A} {B} {steps} read {s} {xs} gives = record { runs = each s xs gives.runs }
  where
    each : (s : S) (xs : List A) → AlwaysYields steps (λ x. x) s xs → AlwaysYields steps read s (map read xs)
    each s [] none = none
    each s (x ∷ xs) one = (one.0, λ y t step. let next = one.1 y t step in (ap read next.0, each t xs next.1))
