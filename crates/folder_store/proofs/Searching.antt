-- Which names of a folder are wanted, and how they are looked up.
use Rattle.std.{
  proofs.Common.{◌≡◌, ◌≢◌, ◌⊎◌, ◌∙◌, ◌+◌, ◌<◌, ◌≤◌, ◌&&◌, ◌||◌, ℕ, suc, Bool, true, false, List, [], ◌∷◌, ◌++◌, Bor},
  proofs.Common.{All, HoldsAt, Result, Ok, Err, String, ap, ap₂, arith, bytes_eq, filter, flat_map, get_or, inl, inr, if◌then◌else◌},
  proofs.Common.{IsUtf8, length, map, refl, string_bytes, subst, sym, take, true≢false},
  proofs.lemmas.{Bool.cases_lt, Cmp.nat_list_cmp_total, Cmp.nat_list_eq_equiv, Map.Text.is_eq-slice_cmp},
  proofs.lemmas.{Slice.Eq.bytes_eq-Decides, Slice.Zip.get_or-zip, Slice.Zip.length-zip},
  proofs.lemmas.List.{append-nil, append_assoc, map-append, take_all},
  proofs.lemmas.List.Elements.{All-append, All-cons, All-head, All-nil, All-tail},
  proofs.lemmas.List.Folds.{list_any-append, list_any_at, list_any_more, list_any_none},
  proofs.lemmas.List.Sorted.searchable_from_sorted,
  proofs.lemmas.Str.{IsUtf8-from_is_utf8, is_utf8-from_IsUtf8},
  proofs.Math.Bool.or-false,
  specs.{Cmp.Lexicographic.slice_cmp, List.{AllPass, list_any, zip}},
  specs.{Str.is_utf8, List.Sorted.{IsBinarySearchResult, IsSearchInRange}, Ordering.{is_eq, nat_cmp}, Result.is_ok},
}
use Rattle.mail_terms.specs.{Listing.Item, UniqueId.IsLegalId}
use Rattle.mail_store.specs.{FileName.stem_of, Held.is_asked, Loss.is_among}
use Rattle.folder_store.specs.Wanted.{AreLegal, AreSorted, TellsNames, fits_name, has_octets, has_stem_of, is_listed}
use Rattle.folder_store.specs.Wanted.{is_hidden_name, is_sought_by, name_ended}
use Rattle.folder_store.specs.declared.wanted.Wanted.{Wanted, TheVariants.{All as Each}}
use Rattle.folder_store.proofs.Marking.{cons_parts}

-- all names are wanted
pub filter_each : (names : List (List ℕ)) → filter (is_sought_by Each) names ≡ names
filter_each [] = refl
filter_each (name ∷ names) = ap (λ (l : List (List ℕ)). name ∷ l) (filter_each names)

-- ---- texts in order

-- what the order of texts says of them
order_is : (a b : List ℕ) (is : Bool) → is_eq (slice_cmp nat_cmp a b) ≡ is → bytes_eq b a ≡ is
order_is a b is h = nat_list_eq_equiv.symm b a ∙ sym (is_eq-slice_cmp a b) ∙ h

no_text : Bor (List ℕ)
no_text = record { ref_ptr = (0, 0); now = [] }

-- a search in order finds what is there
pub search_finds : (texts : List (Bor (List ℕ))) (text : List ℕ) (r : Result ℕ ℕ) → AreSorted texts
    → IsSearchInRange r (length texts) → IsBinarySearchResult (λ y. slice_cmp nat_cmp y.now text) texts r
    → is_ok r ≡ has_octets texts text
search_finds texts text (Ok i) sorted within found = sym (list_any_at (λ (o : Bor (List ℕ)). bytes_eq text o.now) texts i no_text within
    (order_is (get_or texts i no_text).now text true (ap is_eq (found no_text))))
search_finds texts text (Err i) sorted within found =
    let parts = found (searchable_from_sorted nat_list_cmp_total (λ (o : Bor (List ℕ)). o.now) texts text sorted) in
    sym (list_any_none (λ (o : Bor (List ℕ)). bytes_eq text o.now) texts (λ k d lt. elim (cases_lt k i) [
      | inl below ↦ order_is (get_or texts k d).now text false (ap is_eq (parts.0 k d (omega arith) below))
      | inr past ↦ order_is (get_or texts k d).now text false (ap is_eq (parts.1 k d past lt))
    ]))

-- a step of the loop over texts
pub octets_step : {A : Type 0} (all : List (Bor (List ℕ))) (texts : List (String A)) (i : ℕ) (item : String A) (t : Bor (List ℕ))
    → i < length texts → item ≡ get_or texts i item → t.now ≡ string_bytes item → (text : List ℕ)
    → has_octets all text ≡ is_among (take i texts) text → has_octets (all ++ t ∷ []) text ≡ is_among (take (i + 1) texts) text
octets_step all texts i item t lt is same text so_far =
    let here : bytes_eq text t.now ≡ bytes_eq text (string_bytes (get_or texts i item)) =
    ap (λ (b : List ℕ). bytes_eq text b) (same ∙ ap string_bytes is) in
    list_any-append (λ (o : Bor (List ℕ)). bytes_eq text o.now) all (t ∷ [])
    ∙ rw (so_far, or-false (bytes_eq text t.now), here) refl
    ∙ sym (list_any_more (λ other. bytes_eq text (string_bytes other)) texts i item lt)

-- ---- ids

same_tests : (a b : Bool) → (a ≡ true → b ≡ true) → (b ≡ true → a ≡ true) → a ≡ b
same_tests true b there back = sym (there refl)
same_tests false true there back = back refl
same_tests false false there back = refl

fails : (a : Bool) → (a ≡ true → ⊥) → a ≡ false
fails true never = absurd (never refl)
fails false never = refl

-- an id that is asked for, by its stem; two ids have different ones
pub ids_found : (account : List ℕ) (ids : List (Bor (List ℕ))) (uid text : List ℕ)
    → ((a b : List ℕ) → IsLegalId a → IsLegalId b → stem_of account a ≡ stem_of account b → a ≡ b)
    → AreLegal ids → IsLegalId uid → stem_of account uid ≡ text → has_octets ids uid ≡ has_stem_of account ids text
ids_found account [] uid text differ all legal is = refl
ids_found account (id ∷ ids) uid text differ all legal is =
    let head : IsLegalId id.now = all 0 id (omega arith) in
    let one : bytes_eq uid id.now ≡ bytes_eq (stem_of account id.now) text =
    same_tests (bytes_eq uid id.now) (bytes_eq (stem_of account id.now) text)
    (λ h. (bytes_eq-Decides (stem_of account id.now) text).1
    (ap (λ (b : List ℕ). stem_of account b) (sym ((bytes_eq-Decides uid id.now).0 h)) ∙ is))
    (λ h. (bytes_eq-Decides uid id.now).1 (differ uid id.now legal head (is ∙ sym ((bytes_eq-Decides _ text).0 h)))) in
    rw (one, ids_found account ids uid text differ (λ k d lt. all (suc k) d (omega (arith, lt))) legal is) refl

pub ids_lack : (account : List ℕ) (ids : List (Bor (List ℕ))) (text : List ℕ) → AreLegal ids
    → ((uid : List ℕ) → IsLegalId uid → stem_of account uid ≢ text) → has_stem_of account ids text ≡ false
ids_lack account ids text legal none = list_any_none (λ (id : Bor (List ℕ)). bytes_eq (stem_of account id.now) text) ids
    (λ k d lt. fails _ (λ h. none _ (legal k d lt) ((bytes_eq-Decides (stem_of account (get_or ids k d).now) text).0 h)))

-- whether an item is asked for and has this stem
abbrev asked_as : List ℕ → List ℕ → Item × Bool → Bool
asked_as account text asked = asked.1 && bytes_eq (stem_of account asked.0.uid) text

unflagged_item : Item × Bool
unflagged_item = (record { uid = []; size = 0 }, false)

-- steps of the loop over items: one that isn't asked for, and one that is
pub ids_skip : (account text : List ℕ) (items : List Item) (flags : List Bool) (i : ℕ) → i < length items → i < length flags
    → get_or flags i false ≡ false
    → list_any (asked_as account text) (take (i + 1) (zip items flags)) ≡ list_any (asked_as account text) (take i (zip items flags))
unfolding unflagged_item
ids_skip account text items flags i a b off =
    list_any_more (asked_as account text) (zip items flags) i unflagged_item (omega (arith, length-zip items flags, a, b))
    ∙ rw (get_or-zip items flags i unflagged_item a b, off) (or-false _)

pub ids_more : (account text : List ℕ) (items : List Item) (flags : List Bool) (i : ℕ) (ids : List (Bor (List ℕ))) (id : Bor (List ℕ))
    → i < length items → i < length flags → get_or flags i false ≡ true → HoldsAt (λ (item : Item). id.now ≡ item.uid) items i
    → has_stem_of account ids text ≡ list_any (asked_as account text) (take i (zip items flags))
    → has_stem_of account (ids ++ id ∷ []) text ≡ list_any (asked_as account text) (take (i + 1) (zip items flags))
unfolding unflagged_item
ids_more account text items flags i ids id a b on is so_far =
    let test : Item × Bool → Bool = asked_as account text in
    let more : list_any test (take (i + 1) (zip items flags)) ≡ (list_any test (take i (zip items flags))
    || bytes_eq (stem_of account (get_or items i unflagged_item.0).uid) text) =
    list_any_more test (zip items flags) i unflagged_item (omega (arith, length-zip items flags, a, b))
    ∙ rw (get_or-zip items flags i unflagged_item a b, on) refl in
    let added : has_stem_of account (ids ++ id ∷ []) text ≡ (has_stem_of account ids text || bytes_eq (stem_of account id.now) text) =
    list_any-append (λ (one : Bor (List ℕ)). bytes_eq (stem_of account one.now) text) ids (id ∷ [])
    ∙ ap (λ (b : Bool). has_stem_of account ids text || b) (or-false (bytes_eq (stem_of account id.now) text)) in
    rw (added, more, so_far, is unflagged_item.0) refl

-- all of them
pub ids_end : (account text : List ℕ) (items : List Item) (flags : List Bool) (i : ℕ) (is : Bool) → length items ≤ i ⊎ length flags ≤ i
    → is ≡ list_any (asked_as account text) (take i (zip items flags)) → is ≡ is_asked account items flags text
ids_end account text items flags i is long so_far =
    so_far ∙ ap (λ (l : List (Item × Bool)). list_any (asked_as account text) l)
    (take_all i (zip items flags) (rw (length-zip items flags) (grind (arith, long))))

pub legal_more : (ids : List (Bor (List ℕ))) (id : Bor (List ℕ)) → AreLegal ids → IsLegalId id.now → AreLegal (ids ++ id ∷ [])
legal_more ids id all one = All-append (λ (id : Bor (List ℕ)). IsLegalId id.now) ids (id ∷ []) all
    (All-cons (λ (id : Bor (List ℕ)). IsLegalId id.now) id [] one (All-nil (λ (id : Bor (List ℕ)). IsLegalId id.now)))

-- ---- names that the system tells

abbrev in_name : ℕ → Type 0
in_name octet = fits_name octet ≡ true

nul_ends : (c : ℕ) → fits_name c ≡ true → c ≡ 0 → ⊥
nul_ends c is none = true≢false (sym (subst (λ (k : ℕ). fits_name k ≡ true) none is))

nothing_cut : (a x : List ℕ) → [] ≡ a ++ 0 ∷ x → ⊥
nothing_cut [] x e = cc
nothing_cut (c ∷ a) x e = cc

-- a text without a NUL is all that is before one
cut_same : (a b x y : List ℕ) → AllPass fits_name a → AllPass fits_name b → a ++ 0 ∷ x ≡ b ++ 0 ∷ y → (a ≡ b) × (x ≡ y)
cut_same [] [] x y p q e = (refl, (cons_parts e).1)
cut_same [] (d ∷ b) x y p q e = absurd (nul_ends d (All-head in_name d b q) (sym (cons_parts e).0))
cut_same (c ∷ a) [] x y p q e = absurd (nul_ends c (All-head in_name c a p) (cons_parts e).0)
cut_same (c ∷ a) (d ∷ b) x y p q e =
    let parts = cons_parts e in
    let rest = cut_same a b x y (All-tail in_name c a p) (All-tail in_name d b q) parts.1 in
    (ap₂ (λ k l. k ∷ l) parts.0 rest.0, rest.1)

has_nul : (a x : List ℕ) → AllPass fits_name (a ++ 0 ∷ x) → ⊥
has_nul [] x all = nul_ends 0 (All-head in_name 0 x all) refl
has_nul (c ∷ a) x all = has_nul a x (All-tail in_name c (a ++ 0 ∷ x) all)

-- once the names that are left are told, these are found
abbrev pub WillFind : (List ℕ → Bool) → List ℕ → List (List ℕ) → List (List ℕ) → Type 0
WillFind tells left found all = (rest : List (List ℕ)) × TellsNames left rest × (found ++ filter tells rest ≡ all)

name_before_rest : (is : Bool) (name : List ℕ) (found rest : List (List ℕ))
    → (found ++ (if is then name ∷ [] else [])) ++ rest ≡ found ++ (if is then name ∷ rest else rest)
name_before_rest true name found rest = append_assoc found (name ∷ []) rest
name_before_rest false name found rest = ap (λ (l : List (List ℕ)). l ++ rest) (append-nil found)

pub find_next : (tells : List ℕ → Bool) (left name after : List ℕ) (found more all : List (List ℕ))
    → left ≡ name ++ 0 ∷ after → AllPass fits_name name → more ≡ found ++ (if tells name then name ∷ [] else [])
    → WillFind tells left found all → WillFind tells after more all
find_next tells left name after found more all is only adds ([], told, finds) = absurd (nothing_cut name after (sym told.whole ∙ is))
find_next tells left name after found more all is only adds (first ∷ rest, told, finds) =
    let whole : first ++ 0 ∷ flat_map name_ended rest ≡ name ++ 0 ∷ after =
    sym (append_assoc first (0 ∷ []) (flat_map name_ended rest)) ∙ sym told.whole ∙ is in
    let free = All-head (AllPass fits_name) first rest told.without_nul in
    let same = cut_same first name (flat_map name_ended rest) after free only whole in (
      rest,
      record { whole = sym same.1; without_nul = All-tail (AllPass fits_name) first rest told.without_nul },
      rw (adds, ← same.0) (name_before_rest (tells first) first found (filter tells rest)) ∙ finds,
    )

pub find_end : (tells : List ℕ → Bool) (left : List ℕ) (found all : List (List ℕ)) → AllPass fits_name left
    → WillFind tells left found all → found ≡ all
find_end tells left found all only ([], told, finds) = sym (append-nil found) ∙ finds
find_end tells left found all only (first ∷ rest, told, finds) = absurd (has_nul first (flat_map name_ended rest)
    (subst (λ (l : List ℕ). AllPass fits_name l) (told.whole ∙ append_assoc first (0 ∷ []) (flat_map name_ended rest)) only))

-- what isn't UTF-8 isn't told, and what is wanted is
pub not_told : (wanted : Wanted) (name : List ℕ) (found : List (List ℕ)) → (IsUtf8 name → ⊥)
    → found ≡ found ++ (if is_listed wanted name then name ∷ [] else [])
not_told wanted name found never =
    let off : is_listed wanted name ≡ false = rw (fails (is_utf8 name) (λ h. never (IsUtf8-from_is_utf8 name h))) (grind arith) in
    rw off (sym (append-nil found))

pub name_told : {A : Type 0} (wanted : Wanted) (name text : List ℕ) (items : List (String A)) (item : String A) → text ≡ name
    → is_hidden_name name ≡ false → IsUtf8 name → is_sought_by wanted text ≡ true → string_bytes item ≡ text
    → map string_bytes (items ++ item ∷ []) ≡ map string_bytes items ++ (if is_listed wanted name then name ∷ [] else [])
name_told wanted name text items item same shown utf8 is bytes =
    let on : is_listed wanted name ≡ true =
    rw (shown, is_utf8-from_IsUtf8 name utf8, subst (λ (t : List ℕ). is_sought_by wanted t ≡ true) same is) refl in
    map-append string_bytes items (item ∷ []) ∙ ap (λ (t : List ℕ). map string_bytes items ++ t ∷ []) (bytes ∙ same)
    ∙ sym (ap (λ (b : Bool). map string_bytes items ++ (if b then name ∷ [] else [])) on)
