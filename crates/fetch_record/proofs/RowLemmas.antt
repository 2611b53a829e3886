-- The record's rows: their ids and their delivery, as the entries of a map, and as the reader takes them.
use Rattle.std.{
  proofs.Common.{All, Bool, HoldsAt, IfNone, IfSome, List, None, Option, Some, [], ap, ap₂, arith, bytes_eq, cond, false},
  proofs.Common.{filter, get_or, inl, inr, is_some, length, length-append, map, not, position, refl, slice_get, subst, suc},
  proofs.Common.{sym, take, true, true≢false, zero, ℕ, ◌&&◌, ◌++◌, ◌<◌, ◌==◌, ◌^◌, ◌||◌, ◌∙◌, ◌∷◌, ◌≡◌, ◌≢◌, ◌⊎◌},
  proofs.Math.{Bool.{and-not_self, or-false, or-true}, Seq.get_or-append_seam},
  proofs.lemmas.{Cmp.nat_list_eq_equiv, Bool.{and_parts, cases_Bool, cond_both, eq-eqb, eqb-true, false_from_ne_true, or_parts, or_right}},
  proofs.lemmas.List.{Quantifiers.position-Some, get_or-map, get_or-take, get_or_append_left, length-map, length-take, map-append},
  proofs.lemmas.List.{take-map, Folds.{Any-from_list_any, list_any_none, map_fixed}},
  proofs.lemmas.List.Elements.{All-cons, All-from_recursion, All-head, All-map, All-nil, All-push, All-tail, All-take, All-weaker},
  proofs.lemmas.List.Elements.recursion_from_All,
  proofs.lemmas.{Map.{Keys.IsDistinct-push, Made.{AllPairs-from_IsDistinct, IsDistinct-from_AllPairs}}, Slice.Eq.bytes_eq-Decides},
  proofs.lemmas.Option.{none-some, same_Some},
  specs.{List.{AllByRecursion, IsDistinct, list_any}, Map.{keys_of, lookup, set_value, values_of}},
}
use Rattle.indexmap.{proofs.MapLemmas.{absent_from_lookup, insert_entry-absent}, specs.IndexMap.{insert_entry, set_value_at}}
use Rattle.mail_terms.{
  specs.{Distinct.AreDistinct, Listing.Item, UniqueId.IsLegalId},
  proofs.{IdLemmas.{same_from_test, test_from_other, test_from_same}, ListLemmas.any_map},
}
use Rattle.fetch_record.specs.{
  Ids.id_octets,
  Lines.{RefusesRow, TakesRow, after_row, is_in_group, version_of},
  Record.{Intent, IsRecord, IsRow, Row, has_row, is_delivered, is_of, marked, with_delivered, with_held},
  RecordFile.{changed, marking, written},
  RecordGrowth.{IsGroup, taken_all},
  RecordMeaning.delivers,
  declared.{seen.SeenFault.TheVariants.RepeatedId, reading.Part.{Part, TheVariants.{Base, Between, Within}}, row_map.State.State, id.Id.Id},
  Rows.{row_from, row_of_state, rows_of_states, state_in, state_of},
}
use mathlib.Core.List.{map-map}

pub with_delivered-false : (row : Row) → with_delivered false row ≡ row
with_delivered-false row = ap (λ b. record row { delivered = b }) (or-false _)

abbrev pub uid_of : Row → List ℕ
uid_of row = row.uid

-- two rows of a record have two ids
pub rows_differ : (rows : List Row) → IsRecord rows → (i j : ℕ) (d : Row) → i < j → j < length rows
    → (get_or rows i d).uid ≢ (get_or rows j d).uid
rows_differ rows is i j d below inside same =
    is.distinct i j [] below (omega (arith, inside, length-map rows uid_of))
    (get_or-map _ _ i d [] (omega (arith, below, inside)) ∙ same ∙ sym (get_or-map _ _ j d [] inside))

pub ids_distinct : (rows : List Row) → IsRecord rows → IsDistinct bytes_eq (map uid_of rows)
ids_distinct rows is = IsDistinct-from_AllPairs bytes_eq-Decides (map uid_of rows) is.distinct

pub rest_of : (row : Row) (rows : List Row) → IsRecord (row ∷ rows) → IsRecord rows
rest_of row rows is = record {
  each = All-tail IsRow row rows is.each;
  distinct =
      λ i j d below inside. is.distinct (suc i) (suc j) d (omega (arith, below)) (omega (arith, inside));
}

IsRecord-push : (rows : List Row) (row : Row) → IsRecord rows → IsRow row → has_row rows row.uid ≡ false → IsRecord (rows ++ row ∷ [])
IsRecord-push rows row is is_row none = record {
  each = All-push IsRow rows row is.each is_row;
  distinct = rw map-append (AllPairs-from_IsDistinct bytes_eq-Decides _
      (IsDistinct-push nat_list_eq_equiv (map uid_of rows) row.uid (ids_distinct rows is) (any_map (bytes_eq row.uid) uid_of rows ∙ none)));
}

pub IsRecord-take : (n : ℕ) (rows : List Row) → IsRecord rows → IsRecord (take n rows)
IsRecord-take n rows is = record {
  each = All-take IsRow n rows is.each;
  distinct = rw (← take-map) (λ i j d below inside same.
      let bound : j < n = omega (arith, inside, length-take n (map uid_of rows)) in
      is.distinct i j d below (omega (arith, inside, length-take n (map uid_of rows)))
      (sym (get_or-take n (map uid_of rows) i d (omega (arith, below, bound))) ∙ same ∙ get_or-take n (map uid_of rows) j d bound));
}

-- a mark leaves the ids
pub IsRecord-marked : (uid : List ℕ) (rows : List Row) → IsRecord rows → IsRecord (marked rows uid)
IsRecord-marked uid rows is = record {
  each = All-map IsRow _ rows (All-weaker IsRow (λ row. IsRow (with_delivered (is_of uid row) row))
      (λ _ row_is. record { legal = row_is.legal; fits = row_is.fits }) rows is.each);
  distinct = rw map-map is.distinct;
}

-- ---- rows that are all recorded as delivered

pub same_row : (row : Row) (also : Bool) → row.delivered ≡ true → with_delivered also row ≡ row
same_row row also is = ap (λ d. let r : Row = record row { delivered = d } in r) (ap (λ d. d || also) is ∙ sym is)

-- nothing is left to be set
pub with_held_same : (listing : List Item) (held : List Bool) (rows : List Row)
    → All (λ (row : Row). row.delivered ≡ true) rows → with_held listing held rows ≡ rows
with_held_same _ _ _ all = map_fixed _ _ (λ k d inside. same_row _ _ (all k d inside))

pub changed_same : (rows : List Row) → changed rows rows ≡ []
changed_same [] = refl
changed_same (_ ∷ rows) = rw and-not_self (changed_same rows)

-- ---- the rows of an id

-- no row before another has its id
pub fresh : (front rows : List Row) (row : Row) → IsRecord (front ++ row ∷ rows) → has_row front row.uid ≡ false
fresh front rows row is = list_any_none _ front (λ k d inside. test_from_other _ _ (λ same.
    rows_differ _ is k _ d inside (omega (arith, length-append front (row ∷ rows)))
    (ap uid_of (get_or_append_left front (row ∷ rows) d k inside) ∙ sym same ∙ ap uid_of (sym (get_or-append_seam front row rows d)))))

-- nor after it
pub apart : (uid : List ℕ) (row : Row) (rows : List Row) → IsRecord (row ∷ rows) → is_of uid row ≡ true → has_row rows uid ≡ false
apart uid row rows is here = list_any_none _ rows (λ k d inside. test_from_other _ _ (λ same.
    rows_differ _ is 0 (suc k) d (omega arith) (omega (arith, inside)) (sym (same_from_test uid row.uid here) ∙ same)))

pub unmarked : (uid : List ℕ) (rows : List Row) → has_row rows uid ≡ false → marked rows uid ≡ rows
unmarked _ [] _ = refl
unmarked uid (row ∷ rows) none = let parts = or_parts _ (has_row rows uid) none in rw (parts.0, or-false, unmarked uid rows parts.1) refl

none_kept : (uid : List ℕ) (rows : List Row) → has_row rows uid ≡ false → filter (is_of uid) rows ≡ []
none_kept _ [] _ = refl
none_kept uid (row ∷ rows) none = let parts = or_parts _ (has_row rows uid) none in rw parts.0 (none_kept uid rows parts.1)

pub none_of : (q : State → Bool) (uid : List ℕ) (rows : List Row) → has_row rows uid ≡ false
    → list_any (λ row. is_of uid row && q (state_of row)) rows ≡ false
none_of q _ [] _ = refl
none_of q uid (row ∷ rows) none = let parts = or_parts _ (has_row rows uid) none in rw parts.0 (none_of q uid rows parts.1)

pub state_in_none : (uid : List ℕ) (rows : List Row) → has_row rows uid ≡ false → state_in rows uid ≡ None
state_in_none _ [] _ = refl
state_in_none uid (row ∷ rows) none = let parts = or_parts _ (has_row rows uid) none in rw parts.0 (state_in_none uid rows parts.1)

pub is_some_state_in : (uid : List ℕ) (rows : List Row) → is_some (state_in rows uid) ≡ has_row rows uid
is_some_state_in _ [] = refl
is_some_state_in uid (row ∷ rows) = elim (cases_Bool (is_of uid row)) [
  | inl here ↦ rw here refl
  | inr other ↦ rw other (is_some_state_in _ rows)
]

pub has_row-some : (uid : List ℕ) (rows : List Row) (state : State) → state_in rows uid ≡ Some state → has_row rows uid ≡ true
has_row-some uid rows _ found = cc (is_some_state_in uid rows)

pub has_row_none : (uid : List ℕ) (rows : List Row) → state_in rows uid ≡ None → has_row rows uid ≡ false
has_row_none uid rows none = cc (is_some_state_in uid rows)

-- the id of a row is legal
pub legal_of : (rows : List Row) (uid : List ℕ) → IsRecord rows → has_row rows uid ≡ true → IsLegalId uid
legal_of rows uid is has =
    let there = Any-from_list_any _ rows has in
    rw (same_from_test uid there.1.uid there.4) (rw there.3 at (is.each there.0 there.1 there.2)).legal

pub illegal : (uid : List ℕ) (rows : List Row) → IsRecord rows → (IsLegalId uid → ⊥) → has_row rows uid ≡ false
illegal _ _ is bad = false_from_ne_true _ (λ has. bad (legal_of _ _ is has))

pub unmarked_none : (uid : List ℕ) (rows : List Row) → state_in rows uid ≡ None → marked rows uid ≡ rows
unmarked_none uid rows none = unmarked uid rows (has_row_none uid rows none)

pub is_delivered_none : (uid : List ℕ) (rows : List Row) → state_in rows uid ≡ None → is_delivered rows uid ≡ false
is_delivered_none uid rows none = none_of (λ state. state.delivered) _ rows (has_row_none uid rows none)

abbrev pub now_delivered : List ℕ → State → Row
now_delivered uid state = record { uid = uid; first_seen = state.first_seen; delivered = true }

-- what holds of rows that begin with the id's row, and of rows that have it later
by_row : (P : List Row → Type 0) (uid : List ℕ) (state : State)
    → ((rows : List Row) → has_row rows uid ≡ false → P (row_from uid state ∷ rows))
    → ((row : Row) (rows : List Row) → is_of uid row ≡ false → P rows → P (row ∷ rows)) → (rows : List Row)
    → IsRecord rows → state_in rows uid ≡ Some state → P rows
by_row P _ state _ _ [] _ found = absurd (none-some state found)
by_row P uid state here later (row ∷ rows) is found = elim (cases_Bool (is_of uid row)) [
  | inl test ↦ subst P (ap₂ (λ u s. row_from u s ∷ rows) (same_from_test _ _ test)
      (sym (same_Some (state_of row) state (rw test at found)))) (here rows (apart _ row rows is test))
  | inr test ↦ later row rows test (by_row P _ _ here later rows (rest_of _ _ is) (rw test at found))
]

module _ (uid : List ℕ) (rows : List Row) (state : State) (is : IsRecord rows) (found : state_in rows uid ≡ Some state) where
  same : bytes_eq uid uid ≡ true
  same = test_from_same uid _ refl

  -- what a mark changes
  changed-marked : state.delivered ≡ false → changed rows (marked rows uid) ≡ now_delivered uid state ∷ []
  changed-marked fresh' = by_row (λ rs. changed rs (marked rs uid) ≡ now_delivered uid state ∷ []) uid state
      (λ rs none. rw (same, fresh', unmarked uid rs none, changed_same rs) refl)
      (λ _ _ test more. rw (test, or-false, and-not_self) more) rows is found

  -- the one row of an id after a mark
  filter-marked : filter (is_of uid) (marked rows uid) ≡ now_delivered uid state ∷ []
  filter-marked = by_row (λ rs. filter (is_of uid) (marked rs uid) ≡ now_delivered uid state ∷ []) uid state
      (λ rs none. rw (same, or-true, unmarked uid rs none, none_kept uid rs none) refl) (λ _ _ test more. rw test more) rows is found

  -- an id that was delivered stays as it is
  pub marked_delivered : state.delivered ≡ true → marked rows uid ≡ rows
  marked_delivered old = by_row (λ rs. marked rs uid ≡ rs) uid state
      (λ rs none. rw (same, or-true, unmarked uid rs none, old) refl) (λ row rs test more. rw (test, or-false, more) refl) rows is found

  -- what holds of some row of an id holds of its state
  pub any_of : (q : State → Bool) → list_any (λ row. is_of uid row && q (state_of row)) rows ≡ q state
  any_of q = by_row (λ rs. list_any (λ row. is_of uid row && q (state_of row)) rs ≡ q state) uid state
      (λ rs none. rw (same, none_of q uid rs none, or-false) refl) (λ row rs test more. rw test more) rows is found

  -- what a mark writes, by the intent that is open
  pub mark_is_written : (intent : Option Intent) → (state.delivered ≡ false) ⊎ (intent ≢ None)
      → marking intent uid rows (marked rows uid) ≡ now_delivered uid state ∷ []
  mark_is_written None (inl fresh') = changed-marked fresh'
  mark_is_written None (inr some) = absurd (some refl)
  mark_is_written (Some _) _ = filter-marked

  -- what a mark answers
  pub mark_changes : state.delivered ≡ false → marked rows uid ≢ rows
  mark_changes new = λ same'. let e : now_delivered uid state ∷ [] ≡ [] = cc (changed-marked new, changed_same rows) in cc

  pub is_delivered_some : is_delivered rows uid ≡ state.delivered
  is_delivered_some = any_of (λ s. s.delivered)

  -- what a mark writes is a group, and the rows after it are the marked ones
  pub IsGroup-mark : IsGroup rows (now_delivered uid state ∷ []) × (taken_all rows (now_delivered uid state ∷ []) ≡ marked rows uid)
  IsGroup-mark =
      let known = by_row (λ rs. All IsRow rs → IsRow (row_from uid state)) uid state (λ rs none each. All-head IsRow _ rs each)
      (λ row rs test more each. more (All-tail IsRow row rs each)) rows is found is.each in
      let there = any_of (λ s. true && (s.first_seen == state.first_seen)) ∙ eq-eqb state.first_seen state.first_seen refl in (
        record {
          each = All-cons IsRow (now_delivered uid state) [] (record { legal = known.legal; fits = known.fits }) (All-nil IsRow);
          count = (omega arith, omega arith);
          follows = (or_right _ _ there, tt);
        },
        ap (λ (b : Bool). cond b (marked rows uid) (rows ++ now_delivered uid state ∷ [])) (has_row-some uid rows state found),
      )

pub none_written : (intent : Option Intent) (uid : List ℕ) (rows : List Row) → intent ≡ None → written (marking intent uid rows rows) ≡ []
none_written _ _ rows none = rw (none, changed_same) refl

-- a row says of its id whether it was delivered
pub is_delivered-at : (rows : List Row) (i : ℕ) (d : Row) → IsRecord rows → i < length rows
    → is_delivered rows (get_or rows i d).uid ≡ (get_or rows i d).delivered
is_delivered-at [] i d _ inside = absurd (omega (arith, inside))
is_delivered-at (row ∷ rows) zero d is _ =
    let same = test_from_same _ row.uid refl in
    rw (same, none_of (λ state. state.delivered) row.uid rows (apart row.uid row rows is same), or-false) refl
is_delivered-at (row ∷ rows) (suc i) d is inside =
    rw (test_from_other (get_or rows i d).uid row.uid (λ same. rows_differ (row ∷ rows) is 0 (suc i) d (omega arith)
    (omega (arith, inside)) (sym same))) (is_delivered-at rows i d (rest_of row rows is) (omega (arith, inside)))

-- and what is known of its message
pub state_in-at : (rows : List Row) (i : ℕ) (d : Row) → IsRecord rows → i < length rows
    → state_in rows (get_or rows i d).uid ≡ Some (state_of (get_or rows i d))
state_in-at [] i d _ inside = absurd (omega (arith, inside))
state_in-at (row ∷ _) zero d _ _ = rw test_from_same refl
state_in-at (row ∷ rows) (suc i) d is inside =
    rw (test_from_other (get_or rows i d).uid row.uid (λ same. rows_differ (row ∷ rows) is 0 (suc i) d (omega arith)
    (omega (arith, inside)) (sym same))) (state_in-at rows i d (rest_of _ _ is) (omega (arith, inside)))

-- what was read at the place of an id is known of it
pub state_found : (rows : List Row) (uid : List ℕ) (place : ℕ) (read : Row) → IsRecord rows → (place < length rows)
    × HoldsAt (λ (row : Row). row.uid ≡ uid) rows place
    → HoldsAt (λ (row : Row). row ≡ read) rows place → state_in rows uid ≡ Some (state_of read)
state_found rows _ _ read is found at =
    ap (state_in rows) (sym (found.1 read)) ∙ state_in-at _ _ _ is found.0 ∙ ap (λ r. Some (state_of r)) (at read)

-- ---- the rows as the entries of a map

pub lookup_state : (uid : List ℕ) (es : List (Id × State))
    → lookup (λ key. bytes_eq uid (id_octets key)) es ≡ state_in (rows_of_states es) uid
lookup_state _ [] = refl
lookup_state uid (e ∷ es) = elim (cases_Bool (bytes_eq uid (id_octets e.0))) [
  | inl here ↦ rw here refl
  | inr other ↦ rw other (lookup_state _ es)
]

pub set_here : (uid : List ℕ) (es : List (Id × State)) (state new : State) → IsRecord (rows_of_states es)
    → lookup (λ key. bytes_eq uid (id_octets key)) es ≡ Some state → new ≡ record state { delivered = true }
    → rows_of_states (set_value (λ key. bytes_eq uid (id_octets key)) es new) ≡ marked (rows_of_states es) uid
set_here _ [] _ _ _ _ _ = refl
set_here uid (e ∷ es) state new is found new_is = elim (cases_Bool (bytes_eq uid (id_octets e.0))) [
  | inl test ↦ rw (
    test,
    unmarked uid (rows_of_states es) (apart uid (row_of_state e) (rows_of_states es) is test),
    or-true,
    new_is,
    ← same_Some e.1 state (rw test at found),
  ) refl
  | inr test ↦ rw (
    test,
    or-false,
    set_here uid es state new (rest_of (row_of_state e) (rows_of_states es) is) (rw test at found) new_is,
  ) refl
]

-- the row at a place is marked
pub set_at : (es : List (Id × State)) (i : ℕ) (d : Row) (state new : State) → IsRecord (rows_of_states es)
    → i < length (rows_of_states es) → slice_get (values_of es) i ≡ Some state → new ≡ record state { delivered = true }
    → rows_of_states (set_value_at es i new) ≡ marked (rows_of_states es) (get_or (rows_of_states es) i d).uid
set_at [] i d _ _ _ inside _ _ = absurd (omega (arith, inside))
set_at (e ∷ es) zero d state _ is _ found new_is =
    let test = test_from_same _ (id_octets e.0) refl in
    rw (
      test,
      unmarked (id_octets e.0) (rows_of_states es) (apart (id_octets e.0) (row_of_state e) (rows_of_states es) is test),
      or-true,
      new_is,
      ←
          same_Some e.1 state found,
    ) refl
set_at (e ∷ es) (suc i) d state new is inside found new_is =
    let other = test_from_other (get_or (rows_of_states es) i d).uid (id_octets e.0)
    (λ same. rows_differ (row_of_state e ∷ rows_of_states es) is 0 (suc i) d (omega arith) (omega (arith, inside)) (sym same)) in
    rw (
      other,
      or-false,
      set_at es i d state new (rest_of (row_of_state e) (rows_of_states es) is) (omega (arith, inside)) found new_is,
    ) refl

pub place_found : (uid : List ℕ) (es : List (Id × State)) (place : Option ℕ)
    → place ≡ position (λ key. bytes_eq uid (id_octets key)) (keys_of es)
    → IfSome place (λ i. (i < length (rows_of_states es)) × HoldsAt (λ (row : Row). row.uid ≡ uid) (rows_of_states es) i)
place_found _ _ None _ = tt
place_found _ [] (Some i) is = absurd (none-some i (sym is))
place_found uid (e ∷ es) (Some i) is =
    let at = position-Some (λ key. bytes_eq uid (id_octets key)) (keys_of (e ∷ es)) i e.0 (sym is) in
    let inside : i < length (e ∷ es) = omega (arith, at.0, length-map (e ∷ es) (λ (entry : Id × State). entry.0)) in (
      omega (arith, inside, length-map (e ∷ es) row_of_state),
      λ d. ap uid_of (get_or-map row_of_state (e ∷ es) i e d inside)
          ∙ ap id_octets (sym (get_or-map (λ (entry : Id × State). entry.0) (e ∷ es) i e e.0 inside))
          ∙ sym (same_from_test uid _ at.1),
    )

pub no_place : (uid : List ℕ) (es : List (Id × State)) (place : Option ℕ)
    → is_some place ≡ is_some (lookup (λ key. bytes_eq uid (id_octets key)) es) → IfNone place (has_row (rows_of_states es) uid ≡ false)
no_place _ _ (Some i) _ = tt
no_place uid es None is = cc (lookup_state uid es, is_some_state_in uid (rows_of_states es))

-- ---- a row that is added or replaced

abbrev is_key : Id → Id → Bool
is_key key other = bytes_eq (id_octets key) (id_octets other)

insert_is_set : (key : Id) (old new : State) (es : List (Id × State))
    → lookup (is_key key) es ≡ Some old → insert_entry is_key es key new ≡ set_value (is_key key) es new
insert_is_set key old _ [] found = absurd (none-some old found)
insert_is_set key old new (e ∷ es) found = elim (cases_Bool (is_key key e.0)) [
  | inl here ↦ rw here refl
  | inr other ↦ rw (other, insert_is_set key old new es (rw other at found)) refl
]

each_set : (test : Id → Bool) (new : State) (es : List (Id × State)) → new.first_seen < 2 ^ 64
    → AllByRecursion IsRow (rows_of_states es) → AllByRecursion IsRow (rows_of_states (set_value test es new))
each_set _ _ [] _ _ = tt
each_set test _ (e ∷ es) fits each = cond_both (test e.0) _ _ (λ fs. AllByRecursion IsRow (rows_of_states fs))
    (λ _. (record { legal = each.0.legal; fits = fits }, each.1)) (λ _. (each.0, each_set _ _ es fits each.1))

ids_kept : (test : Id → Bool) (new : State) (es : List (Id × State))
    → map uid_of (rows_of_states (set_value test es new)) ≡ map uid_of (rows_of_states es)
ids_kept _ _ [] = refl
ids_kept test new (e ∷ es) =
    cond_both (test e.0) _ _ (λ fs. map uid_of (rows_of_states fs) ≡ map uid_of (rows_of_states (e ∷ es)))
    (λ _. refl) (λ _. rw (ids_kept test new es) refl)

-- the map is changed by one row
pub record Puts (uid : List ℕ) (state : State) (es fs : List (Id × State)) (rows : List Row) : Type 0 where
  pub key : Id
  pub rows_are : rows_of_states es ≡ rows
  pub key_is : id_octets key ≡ uid
  pub fs_is : fs ≡ insert_entry is_key es key state

module _ {uid : List ℕ} {state : State} {es fs : List (Id × State)} {rows : List Row} (puts : Puts uid state es fs rows) where
  pub known_at : lookup (is_key puts.key) es ≡ state_in rows uid
  known_at = lookup_state _ es ∙ rw (puts.rows_are, puts.key_is) refl

  pub put_added : (found : Option State) → found ≡ state_in rows uid → IfNone found (rows_of_states fs ≡ rows ++ row_from uid state ∷ [])
  put_added (Some _) _ = tt
  put_added None found_is =
      rw (
        puts.fs_is,
        insert_entry-absent is_key puts.key state es (absent_from_lookup (is_key puts.key) es (known_at ∙ sym found_is)),
        map-append,
        puts.rows_are,
        puts.key_is,
      ) refl

  pub put_marked : (found : Option State) → IsRecord rows → found ≡ state_in rows uid
      → IfSome found (λ old. state ≡ record old { delivered = true } → rows_of_states fs ≡ marked rows uid)
  put_marked None _ _ = tt
  put_marked (Some _) is found_is = λ state_is.
      let at = known_at ∙ sym found_is in
      ap rows_of_states (puts.fs_is ∙ insert_is_set _ _ _ es at) ∙ set_here _ es _ _ (subst IsRecord (sym puts.rows_are) is) at state_is
      ∙ ap₂ marked puts.rows_are puts.key_is

  pub put_is_record : (found : Option State) → IsRecord rows → IsRow (row_from uid state) → found ≡ state_in rows uid
      → IsRecord (rows_of_states fs)
  put_is_record None is row_is found_is = rw (put_added None found_is) (IsRecord-push _ _ is row_is (has_row_none uid rows (sym found_is)))
  put_is_record (Some old) is row_is found_is =
      let before = subst IsRecord (sym puts.rows_are) is in
      rw (puts.fs_is ∙ insert_is_set puts.key old state es (known_at ∙ sym found_is)) (record {
        each = All-from_recursion IsRow _ (each_set (is_key puts.key) state es row_is.fits
            (recursion_from_All IsRow (rows_of_states es) before.each));
        distinct = subst AreDistinct (sym (ids_kept (is_key puts.key) state es)) before.distinct;
      })

-- ---- a row of the file, as the reader takes it

-- whether a row delivers an id, by what is known of it
pub delivers-known : (older : Bool) (rows : List Row) (row : Row) (state : State) → IsRecord rows → state_in rows row.uid ≡ Some state
    → delivers (version_of older) rows row ≡ (row.delivered && (not (older && state.delivered) && (state.first_seen == row.first_seen)))
delivers-known true rows row state is found =
    rw (any_of row.uid rows state is found (λ s. not s.delivered && (s.first_seen == row.first_seen))) refl
delivers-known false rows row state is found = rw (any_of row.uid rows state is found (λ s. true && (s.first_seen == row.first_seen))) refl

pub delivered_again : (older : Bool) (old new : State)
    → (new.delivered && (not (older && old.delivered) && (old.first_seen == new.first_seen))) ≡ true → new ≡ record old { delivered = true }
delivered_again older old new so =
    let parts = and_parts new.delivered (not (older && old.delivered) && (old.first_seen == new.first_seen)) so in
    let seconds = eqb-true old.first_seen new.first_seen
    (and_parts (not (older && old.delivered)) (old.first_seen == new.first_seen) parts.1).1 in
    λ i. record { first_seen = sym seconds i; delivered = parts.0 i }

pub takes_new : (older : Bool) (part : Part) (rows : List Row) (row : Row) → part ≢ Between
    → has_row rows row.uid ≡ false → TakesRow older part rows row (after_row part) (rows ++ row ∷ [])
takes_new _ Between _ _ other _ = absurd (other refl)
takes_new _ (Within zero) _ _ _ none = λ n _ _. rw none refl
takes_new _ _ _ _ _ none = λ n _ _. rw none refl

pub takes_old : (older : Bool) (part : Part) (rows : List Row) (row : Row) → is_in_group part ≡ true
    → has_row rows row.uid ≡ true → delivers (version_of older) rows row ≡ true
    → TakesRow older part rows row (after_row part) (marked rows row.uid)
takes_old _ (Within zero) _ _ _ has now = λ n _ _. rw (has, now) refl
takes_old _ (Within (suc _)) _ _ _ has now = λ n _ _. rw (has, now) refl
takes_old _ _ _ _ within _ _ = absurd (true≢false (sym within))

pub refuses_old : (older : Bool) (part : Part) (rows : List Row) (row : Row) (number : ℕ) → part ≢ Between
    → has_row rows row.uid ≡ true → (is_in_group part ≡ true → delivers (version_of older) rows row ≡ false)
    → RefusesRow older part rows row number (RepeatedId number)
refuses_old _ Base _ _ _ _ has _ = λ n _ _ is. rw (has, is) refl
refuses_old _ Between _ _ _ other _ _ = absurd (other refl)
refuses_old _ (Within zero) _ _ _ _ has later = λ n _ _ is. rw (has, later refl, is) refl
refuses_old _ (Within (suc _)) _ _ _ _ has later = λ n _ _ is. rw (has, later refl, is) refl

pub ruleset mark_laws = (unmarked_none, marked_delivered, mark_changes, has_row_none, none_written)
