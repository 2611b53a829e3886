-- The names in the folders of a Maildir in memory.
use Rattle.std.{
  proofs.Common.{◌≡◌, ◌≢◌, ◌≤◌, ◌<◌, ◌+◌, ◌∙◌, ◌∷◌, [], ℕ, zero, suc, Bool, true, false, List, Result, Ok, Err, IfErr, IfOk, All},
  proofs.Common.{Contains},
  proofs.Common.{ap, arith, cond, drop, get_or, length, map, refl, subst, sym, take, ⊎_elim},
  proofs.lemmas.{
    Bool.{cases_lt, false≢true},
    List.{get_or-map as get_or-map_any, length-map},
    List.Elements.{All-append, All-cons, All-drop, All-map, All-take},
    List.Kept.{AllPairs-cons, AllPairs-filter},
  },
  proofs.Math.ListN.get_or-map,
  specs.{
    List.{AllPairs, AllWithin, HoldsAt, filter, insert},
    List.Sorted.{IsBinarySearchResult, IsNonDecreasingBy, IsPartitionPoint, IsSearchInRange},
    Ordering.{is_eq, is_lt, nat_cmp, ordering_index, ordering_reverse, ordering_then},
    declared.cmp.Ordering.{Ordering, TheVariants.{Equal, Greater, Less}},
  },
}
use Rattle.folder_drop.specs.{
  declared.{maildir_names.{Folder.{Folder, TheVariants.{Cur, New}}, PlacedFile.PlacedFile}, memory_names.MemoryName.MemoryName},
  MemoryLaws.differ,
  MemoryNames.{AreAscendingPlaces, is_elsewhere, place_of_name},
  Places.{AreInOrder, folder_and_name, places_cmp, places_total, rank},
}
use Rattle.folder_drop.proofs.{MailLemmas.same_pair, SeenLemmas.equal_from_cmp}

-- ---- the order of places

then_equal : (o p : Ordering) → ordering_then o p ≡ Equal → (o ≡ Equal) × (p ≡ Equal)
then_equal Less p e = absurd (false≢true (sym (ap is_lt e)))
then_equal Equal p e = (refl, e)
then_equal Greater p e = absurd (false≢true (ap is_eq e))

rank_equal : (a b : Folder) → nat_cmp (rank a) (rank b) ≡ Equal → a ≡ b
rank_equal Cur Cur e = refl
rank_equal New New e = refl
rank_equal Cur New e = absurd (false≢true (sym (ap is_lt e)))
rank_equal New Cur e = absurd (false≢true (ap is_eq e))

equal_places : (a b : Folder × List ℕ) → places_cmp a b ≡ Equal → a ≡ b
equal_places a b e =
    let rest = (then_equal _ _ e).1 in
    let both = then_equal _ _ rest in
    same_pair a.0 b.0 a.1 b.1 (rank_equal a.0 b.0 both.0) (equal_from_cmp a.1 b.1 both.1)

turned : (a b : Folder × List ℕ) (o : Ordering) → places_cmp a b ≡ o → places_cmp b a ≡ ordering_reverse o
turned a b o e = places_total.antisymm b a ∙ ap ordering_reverse e

index_most : (o : Ordering) → ordering_index o ≤ 2
index_most Less = omega arith
index_most Equal = omega arith
index_most Greater = omega arith

at_least : (o p : Ordering) → o ≡ Less → ordering_index o ≤ ordering_index p
at_least o p e = let none : ordering_index o ≡ 0 = ap ordering_index e in omega (arith, none)

index_rises : (x y p : Folder × List ℕ) → places_cmp x y ≡ Less → (o : Ordering) → places_cmp y p ≡ o
    → ordering_index (places_cmp x p) ≤ ordering_index (places_cmp y p)
index_rises x y p less Less e = at_least (places_cmp x p) (places_cmp y p) (places_total.trans x y p less e)
index_rises x y p less Equal e =
    at_least (places_cmp x p) (places_cmp y p) (subst (λ q. places_cmp x q ≡ Less) (equal_places y p e) less)
index_rises x y p less Greater e =
    let most = index_most (places_cmp x p) in
    let here : ordering_index (places_cmp y p) ≡ 2 = ap ordering_index e in omega (arith, most, here)

-- ---- a name among those that are in order

in_both : {A : Type 0} (R : A → A → Type 0) (a b c d : A) → a ≡ c → b ≡ d → R a b → R c d
in_both R a b c d e f r = subst (λ x. R x d) e (subst (λ y. R a y) f r)

less_at : (names : List MemoryName) → AreAscendingPlaces (map place_of_name names) → (i j : ℕ) (d : MemoryName) → i < j → j < length names
    → places_cmp (place_of_name (get_or names i d)) (place_of_name (get_or names j d)) ≡ Less
less_at names ascending i j d lt within =
    let long = length-map names place_of_name in
    in_both (λ a b. places_cmp a b ≡ Less) _ _ _ _ (get_or-map place_of_name names i d) (get_or-map place_of_name names j d)
    (ascending i j (place_of_name d) lt (omega (arith, long, within)))

rises : (names : List MemoryName) (place : Folder × List ℕ) → AreAscendingPlaces (map place_of_name names)
    → IsNonDecreasingBy (λ one. ordering_index (places_cmp (place_of_name one) place)) names
rises names place ascending = λ i j d le within. ⊎_elim
    (λ (lt : i < j). index_rises (place_of_name (get_or names i d)) (place_of_name (get_or names j d)) place
    (less_at names ascending i j d lt within) (places_cmp (place_of_name (get_or names j d)) place) refl)
    (λ (ge : j ≤ i). let same : i ≡ j = omega (arith, le, ge) in
    let e = ap (λ (k : ℕ). ordering_index (places_cmp (place_of_name (get_or names k d)) place)) same in omega (arith, e))
    (cases_lt i j)

module _ (names : List MemoryName) (place : Folder × List ℕ) where
  pub is_found : (r : Result ℕ ℕ) → IsSearchInRange r (length names)
      → IsBinarySearchResult (λ one. places_cmp (place_of_name one) place) names r
      → IfOk r (λ at. (at < length names) × HoldsAt (λ one. place_of_name one ≡ place) names at)
  is_found (Ok at) range is = (range, λ d. equal_places (place_of_name (get_or names at d)) place (is d))
  is_found (Err at) range is = tt

  pub is_between : AreAscendingPlaces (map place_of_name names) → (r : Result ℕ ℕ) → IsSearchInRange r (length names)
      → IsBinarySearchResult (λ one. places_cmp (place_of_name one) place) names r
      → IfErr r (λ at. (at ≤ length names) × IsPartitionPoint (λ one. places_cmp (place_of_name one) place ≡ Less)
      (λ one. places_cmp (place_of_name one) place ≡ Greater) names at)
  is_between ascending (Ok at) range is = tt
  is_between ascending (Err at) range is = (range, is (rises names place ascending))

  pub none_there : (at : ℕ) → IsPartitionPoint (λ one. places_cmp (place_of_name one) place ≡ Less)
      (λ one. places_cmp (place_of_name one) place ≡ Greater) names at → All (λ one. place_of_name one ≢ place) names
  none_there at parted = λ k d within. ⊎_elim
      (λ (lt : k < at). differ (place_of_name (get_or names k d)) place (parted.0 k d (omega arith) lt))
      (λ (ge : at ≤ k). λ same. differ place (place_of_name (get_or names k d))
      (turned (place_of_name (get_or names k d)) place Greater (parted.1 k d ge within)) (sym same))
      (cases_lt k at)

pub has_place : (names : List MemoryName) (place : Folder × List ℕ) (d : MemoryName) (at : ℕ) → at < length names
    → HoldsAt (λ one. place_of_name one ≡ place) names at → Contains (map place_of_name names) place
has_place names place d at within is =
    let long = length-map names place_of_name in
    (at, omega (arith, long, within), get_or-map_any place_of_name names at d place within ∙ is d)

-- ---- one more name, and one less

All-insert : {X : Type 0} (P : X → Type 0) (xs : List X) (i : ℕ) (y : X) → All P xs → P y → All P (insert xs i y)
All-insert P xs i y all one =
    All-append P (take i xs) (y ∷ drop i xs) (All-take P i xs all) (All-cons P y (drop i xs) one (All-drop P i xs all))

AllPairs-insert : {X Y : Type 0} (f : X → Y) (R : Y → Y → Type 0) (xs : List X) (i : ℕ) (y : X) → AllPairs R (map f xs)
    → AllWithin (λ x. R (f x) (f y)) xs 0 i → AllWithin (λ x. R (f y) (f x)) xs i (length xs)
    → AllPairs R (map f (insert xs i y))
AllPairs-insert f R xs zero y all low high =
    AllPairs-cons R (f y) (map f xs) (All-map (R (f y)) f xs (λ k d within. high k d (omega arith) within)) all
AllPairs-insert f R [] (suc i) y all low high =
    AllPairs-cons R (f y) [] (λ k d within. absurd (omega (arith, within))) all
AllPairs-insert f R (x ∷ xs) (suc i) y all low high =
    let first : All (λ z. R (f x) (f z)) xs = λ k d within. let long = length-map xs f in
    rw (← get_or-map f xs k d) (all zero (suc k) (f d) (omega arith) (omega (arith, long, within))) in
    AllPairs-cons R (f x) (map f (insert xs i y))
    (All-map (R (f x)) f (insert xs i y) (All-insert (λ z. R (f x) (f z)) xs i y first (low zero x (omega arith) (omega arith))))
    (AllPairs-insert f R xs i y (λ k j d lt within. all (suc k) (suc j) d (omega (arith, lt)) (omega (arith, within)))
    (λ k d from within. low (suc k) d (omega arith) (omega (arith, within)))
    (λ k d from within. high (suc k) d (omega (arith, from)) (omega (arith, within))))

pub ascends_with : (names : List MemoryName) (at : ℕ) (one : MemoryName) → AreAscendingPlaces (map place_of_name names)
    → IsPartitionPoint (λ other. places_cmp (place_of_name other) (place_of_name one) ≡ Less)
    (λ other. places_cmp (place_of_name other) (place_of_name one) ≡ Greater) names at
    → AreAscendingPlaces (map place_of_name (insert names at one))
ascends_with names at one ascending parted = AllPairs-insert place_of_name (λ a b. places_cmp a b ≡ Less) names at one ascending parted.0
    (λ k d from within. turned (place_of_name (get_or names k d)) (place_of_name one) Greater (parted.1 k d from within))

cond_map : {X Y : Type 0} (f : X → Y) (b : Bool) (x : X) (xs : List X) (ys : List Y) → map f xs ≡ ys
    → map f (cond b (x ∷ xs) xs) ≡ cond b (f x ∷ ys) ys
cond_map f true x xs ys e = ap (λ l. f x ∷ l) e
cond_map f false x xs ys e = e

pub map-filter : {X Y : Type 0} (f : X → Y) (q : Y → Bool) (xs : List X) → map f (filter (λ x. q (f x)) xs) ≡ filter q (map f xs)
map-filter f q [] = refl
map-filter f q (x ∷ xs) = cond_map f (q (f x)) x (filter (λ z. q (f z)) xs) (filter q (map f xs)) (map-filter f q xs)

pub ascends_without : (names : List MemoryName) (place : Folder × List ℕ) → AreAscendingPlaces (map place_of_name names)
    → AreAscendingPlaces (map place_of_name (filter (λ one. is_elsewhere place (place_of_name one)) names))
ascends_without names place ascending = subst AreAscendingPlaces (sym (map-filter place_of_name (is_elsewhere place) names))
    (AllPairs-filter (λ a b. places_cmp a b ≡ Less) (is_elsewhere place) (map place_of_name names) ascending)

-- ---- a listing

pub listed_in_order : (files : List PlacedFile) (places : List (Folder × List ℕ)) → AreAscendingPlaces places
    → map folder_and_name files ≡ places → AreInOrder files
listed_in_order files places ascending same = λ k d from within.
    let long = length-map files folder_and_name in
    let a = folder_and_name (get_or files k d) in
    let b = folder_and_name (get_or files (k + 1) d) in
    let less = in_both (λ x y. places_cmp x y ≡ Less) _ _ a b (get_or-map folder_and_name files k d)
    (get_or-map folder_and_name files (k + 1) d)
    (subst AreAscendingPlaces (sym same) ascending k (k + 1) (folder_and_name d) (omega arith) (omega (arith, long, within))) in
    ap is_lt (turned a b Less less)
