-- The files with one base, of files that are in order.
use Rattle.std.{
  proofs.Common.{◌≡◌, ◌≢◌, ◌≤◌, ◌<◌, ◌-◌, ◌+◌, ◌∷◌, ◌∙◌, ℕ, Bool, true, false, List, [], Option, Some, None, IfSome, IfNone},
  proofs.Common.{Bor, ap, drop, get_or, length, refl, subst, sym, take},
  proofs.Common.{arith, ⊎_elim},
  proofs.lemmas.{
    Bool.{cases_lt, false≢true},
    Cmp.{nat_list_cmp_total, on_total},
    List.{get_or-drop, get_or-take, length-drop, length-take-le, Elements.Contains-get_or, Sorted.{ranks_by, sorted_far}},
    Map.Text.is_eq-slice_cmp,
    Slice.Eq.bytes_eq-Decides,
  },
  specs.{
    Cmp.Lexicographic.slice_cmp,
    List.{AllWithin, Contains, HoldsAt, slice_get},
    Option.option_copied,
    List.Sorted.{IsPartitionedBy, IsPartitionPoint},
    Cmp.IsTotalOrder,
    Ordering.{is_eq, is_lt, nat_cmp, ordering_reverse, ordering_then},
    Str.bytes_eq,
    declared.cmp.Ordering.{Ordering, TheVariants.{Equal, Greater, Less}},
  },
}
use Rattle.folder_drop.specs.{
  declared.maildir_names.PlacedFile.PlacedFile,
  Places.{AreInOrder, base_of_file, folder_and_name, place_cmp, places_total},
  SeenFiles.{NoneHasBase, HaveBase},
}

-- ---- the order of files

pub place_total : IsTotalOrder place_cmp
place_total = on_total folder_and_name places_total

then_less : (o p : Ordering) → o ≡ Less → ordering_then o p ≡ Less
then_less Less p e = refl
then_less Equal p e = absurd (false≢true (ap is_lt e))
then_less Greater p e = absurd (false≢true (ap is_lt e))

-- the base comes before this one
abbrev pub is_before : List ℕ → PlacedFile → Bool
is_before name file = is_lt (slice_cmp nat_cmp (base_of_file file) name)

-- the base is this one
abbrev pub has_base : List ℕ → PlacedFile → Bool
has_base name file = bytes_eq (base_of_file file) name

less_from_is_lt : (o : Ordering) → is_lt o ≡ true → o ≡ Less
less_from_is_lt Less e = refl
less_from_is_lt Equal e = absurd (false≢true e)
less_from_is_lt Greater e = absurd (false≢true e)

reversed : (x y : List ℕ) (o : Ordering) → slice_cmp nat_cmp x y ≡ o → slice_cmp nat_cmp y x ≡ ordering_reverse o
reversed x y o e = nat_list_cmp_total.antisymm y x ∙ ap ordering_reverse e

-- x isn't behind y, and y is before z
less_at : (x y z : List ℕ) → slice_cmp nat_cmp y x ≢ Less → slice_cmp nat_cmp y z ≡ Less → (o : Ordering)
    → slice_cmp nat_cmp x z ≡ o → slice_cmp nat_cmp x z ≡ Less
less_at x y z ordered less Less e = e
less_at x y z ordered less Equal e = absurd (ordered (reversed x y Greater
    (nat_list_cmp_total.congr x z y e ∙ reversed y z Less less)))
less_at x y z ordered less Greater e = absurd (ordered (nat_list_cmp_total.trans y z x less (reversed x z Greater e)))

pub equal_from_cmp : (x z : List ℕ) → slice_cmp nat_cmp x z ≡ Equal → x ≡ z
equal_from_cmp x z e = (bytes_eq-Decides x z).0 (sym (is_eq-slice_cmp x z) ∙ ap is_eq e)

-- x isn't behind z, and not before it
equal_at : (x z : List ℕ) → slice_cmp nat_cmp z x ≢ Less → is_lt (slice_cmp nat_cmp x z) ≡ false → (o : Ordering)
    → slice_cmp nat_cmp x z ≡ o → x ≡ z
equal_at x z ordered stays Less e = absurd (false≢true (sym stays ∙ ap is_lt e))
equal_at x z ordered stays Equal e = equal_from_cmp x z e
equal_at x z ordered stays Greater e = absurd (ordered (reversed x z Greater e))

not_before_itself : (x : List ℕ) → is_lt (slice_cmp nat_cmp x x) ≡ true → ⊥
not_before_itself x e =
    let less = less_from_is_lt (slice_cmp nat_cmp x x) e in
    let back : slice_cmp nat_cmp x x ≡ Greater = reversed x x Less less in
    false≢true (sym (ap is_lt back) ∙ e)

-- the bases of files in order are
bases_in_order : (files : List PlacedFile) → AreInOrder files → (i j : ℕ) (d : PlacedFile) → i < j → j < length files
    → slice_cmp nat_cmp (base_of_file (get_or files j d)) (base_of_file (get_or files i d)) ≢ Less
bases_in_order files ordered i j d lt within less =
    let x = get_or files j d in let y = get_or files i d in
    let far = sorted_far (λ a b. is_lt (place_cmp a b)) (ranks_by place_total (λ (f : PlacedFile). f)) files ordered i j d
    (omega (arith, lt)) within in
    false≢true (sym far ∙ ap is_lt (then_less (slice_cmp nat_cmp (base_of_file x) (base_of_file y)) _ less))

pub before_parted : (name : List ℕ) (files : List PlacedFile) → AreInOrder files → IsPartitionedBy (is_before name) files
before_parted name files ordered = λ i j d le within is. ⊎_elim
    (λ (lt : i < j). let x = base_of_file (get_or files i d) in let y = base_of_file (get_or files j d) in
    ap is_lt (less_at x y name (bases_in_order files ordered i j d lt within) (less_from_is_lt (slice_cmp nat_cmp y name) is)
    (slice_cmp nat_cmp x name) refl))
    (λ (ge : j ≤ i). let same : j ≡ i = omega (arith, le, ge) in subst (λ (k : ℕ). is_before name (get_or files k d) ≡ true) same is)
    (cases_lt i j)

-- of files from the first on that isn't before the base
pub same_parted : (name : List ℕ) (files : List PlacedFile) (start : ℕ) → AreInOrder files
    → AllWithin (λ file. is_before name file ≡ false) files start (length files) → IsPartitionedBy (has_base name) (drop start files)
same_parted name files start ordered behind = λ i j d le within is. ⊎_elim
    (λ (lt : i < j).
    let long : length (drop start files) ≡ length files - start = length-drop start files in
    let x = base_of_file (get_or (drop start files) i d) in let y = base_of_file (get_or (drop start files) j d) in
    let order : slice_cmp nat_cmp y x ≢ Less = rw (get_or-drop start files i d, get_or-drop start files j d)
    (bases_in_order files ordered (start + i) (start + j) d (omega (arith, lt)) (omega (arith, long, within))) in
    let stays : is_lt (slice_cmp nat_cmp x name) ≡ false = rw (get_or-drop start files i d)
    (behind (start + i) d (omega arith) (omega (arith, long, within, lt))) in
    let same : y ≡ name = (bytes_eq-Decides y name).0 is in
    (bytes_eq-Decides x name).1 (equal_at x name (subst (λ (w : List ℕ). slice_cmp nat_cmp w x ≢ Less) same order) stays
    (slice_cmp nat_cmp x name) refl))
    (λ (ge : j ≤ i). let same : j ≡ i = omega (arith, le, ge) in
    subst (λ (k : ℕ). has_base name (get_or (drop start files) k d) ≡ true) same is)
    (cases_lt i j)

-- from the first that isn't before the base on, so many have it
pub with_base_are : (name : List ℕ) (files : List PlacedFile) (start count : ℕ) → start ≤ length files
    → count ≤ length (drop start files)
    → AreInOrder files → IsPartitionPoint (λ file. is_before name file ≡ true) (λ file. is_before name file ≡ false) files start
    → AllWithin (λ file. base_of_file file ≡ name) (drop start files) 0 count
    → (count < length (drop start files) → HoldsAt (λ file. base_of_file file ≢ name) (drop start files) count)
    → HaveBase name files (take count (drop start files))
with_base_are name files start count in_files in_rest ordered first have stops =
    let long : length (drop start files) ≡ length files - start = length-drop start files in
    let taken : length (take count (drop start files)) ≡ count = length-take-le count (drop start files) in_rest in
    record {
      only = λ k d within.
          let fits : k < count = omega (arith, taken, within) in
          let shown : get_or (take count (drop start files)) k d ≡ get_or (drop start files) k d =
          get_or-take count (drop start files) k d fits in (
            ap base_of_file shown ∙ have k d (omega arith) fits,
            subst (Contains files) (sym (shown ∙ get_or-drop start files k d))
                (Contains-get_or files (start + k) d (omega (arith, fits, in_rest, long))),
          );
      each = λ k d within same. ⊎_elim
          (λ (lt : k < start). absurd (not_before_itself name (subst (λ (x : List ℕ). is_lt (slice_cmp nat_cmp x name) ≡ true)
          same (first.0 k d (omega arith) lt))))
          (λ (ge : start ≤ k).
          let at : get_or (drop start files) (k - start) d ≡ get_or files k d = get_or-drop start files (k - start) d
          ∙ ap (λ (n : ℕ). get_or files n d) (omega (arith, ge)) in
          ⊎_elim
          (λ (lt : k - start < count). subst (Contains (take count (drop start files)))
          (get_or-take count (drop start files) (k - start) d lt ∙ at)
          (Contains-get_or (take count (drop start files)) (k - start) d (omega (arith, taken, lt))))
          (λ (ge_too : count ≤ k - start).
          let in_time : k - start < length (drop start files) = omega (arith, long, within, ge) in
          let passes : has_base name (get_or (drop start files) (k - start) d) ≡ true =
          (bytes_eq-Decides _ name).1 (ap base_of_file at ∙ same) in
          let too : has_base name (get_or (drop start files) count d) ≡ true =
          same_parted name files start ordered first.1 count (k - start) d ge_too in_time passes in
          absurd (stops (omega (arith, in_time, ge_too)) d ((bytes_eq-Decides _ name).0 too)))
          (cases_lt (k - start) count))
          (cases_lt k start);
    }

pub first_found : (name : List ℕ) (files these : List PlacedFile) (first : Option (Bor PlacedFile)) → HaveBase name files these
    → option_copied first ≡ slice_get these 0 → IfSome first (λ file. base_of_file file.now ≡ name)
first_found name files these None are e = tt
first_found name files [] (Some x) are e = cc
first_found name files (y ∷ ys) (Some x) are e =
    let same : x.now ≡ y = cc in ap base_of_file same ∙ (are.only 0 y (omega arith)).0

pub first_none : (name : List ℕ) (files these : List PlacedFile) (first : Option (Bor PlacedFile)) → HaveBase name files these
    → option_copied first ≡ slice_get these 0 → IfNone first (NoneHasBase name files)
first_none name files these (Some x) are e = tt
first_none name files (y ∷ ys) None are e = cc
first_none name files [] None are e = λ k d within same.
    let there = are.each k d within same in absurd (omega (arith, there.1))
