-- What a merge makes of the rows, and what a record's growth appends to its file.
use Rattle.std.{
  proofs.Common.{All, Bool, List, [], ap, append-nil, append_assoc, ap₂, arith, bytes_eq, cond, false, filter, get_or, inl, inr, length, ℕ},
  proofs.Common.{map, not, refl, sym, take, take_all, true, true≢false, zip, ◌&&◌, ◌++◌, ◌+◌, ◌<◌, ◌||◌, ◌∙◌, ◌∷◌, ◌≡◌, ◌≢◌, ◌≤◌, ◌⊎◌, suc},
  proofs.Common.{None, flat_map, length-append, subst, zero, ◌==◌},
  proofs.Math.Bool.{and-false, or-false, or-true, or_assoc},
  proofs.lemmas.Bool.{OnFalse_at, OnTrue_at, and_parts, cases_Bool, cond_both, or_cases, or_from, or_left, or_parts, or_right, and_from},
  proofs.lemmas.Bool.{true_from_ne_false, eq-eqb},
  proofs.lemmas.{Cmp.nat_list_eq_equiv, Slice.{Eq.bytes_eq-Decides, Zip.{get_or-zip, length-zip}}},
  proofs.lemmas.List.{ext_get_or, get_or-map, length-map, map-append, map_more, flat_map_more, length-take, take_more},
  proofs.lemmas.List.Elements.{All-from_recursion, recursion_from_All, filter-append},
  proofs.lemmas.List.Folds.{Any-from_list_any, list_any-append, list_any_more, map_fixed},
  proofs.lemmas.Map.Made.{alike_from_same, is_member-filter, length-le_from_is_member},
  specs.{Bool.{OnFalse, OnTrue}, List.{AllByRecursion, IsDistinct, list_any}},
}
use Rattle.mail_terms.{
  specs.{Listing.{Item, has_item, ids_of, is_flagged}, UniqueId.has_id},
  proofs.{IdLemmas.{nobody, same_from_test, test_from_same}, ListLemmas.any_map},
}
use Rattle.fetch_record.{
  specs.Record.{IsRecord, IsRow, Row, distinct_ids, has_row, is_delivered, is_of, marked, merged, new_ids, undelivered, with_delivered},
  specs.Record.with_held,
  specs.{RecordFile.{changed, Two, record_row_line, written}, RecordGrowth.{MayFollow, Updates, taken_all}},
  specs.RecordMeaning.{delivers, may_take, with_taken},
  proofs.RowLemmas.{apart, ids_distinct, is_delivered-at, none_of, rest_of, same_row, uid_of, with_delivered-false, fresh, unmarked},
}
use mathlib.Core.List.{map-map}

-- ---- the ids of a listing that have no row yet

pub has_id-kept : (p : List ℕ → Bool) (ids : List (List ℕ)) (uid : List ℕ) → has_id (filter p ids) uid ≡ (has_id ids uid && p uid)
has_id-kept p ids uid = is_member-filter nat_list_eq_equiv p uid (alike_from_same bytes_eq-Decides p _) ids

has_id-distinct_ids : (uid : List ℕ) (ids : List (List ℕ)) → has_id (distinct_ids ids) uid ≡ has_id ids uid
has_id-distinct_ids _ [] = refl
has_id-distinct_ids uid (id ∷ ids) =
    rw (
      has_id-kept (λ o. not (bytes_eq id o)) (distinct_ids ids) uid,
      has_id-distinct_ids uid ids,
      nat_list_eq_equiv.symm id uid,
    ) (grind arith)

distinct_ids-push : (ids : List (List ℕ)) (uid : List ℕ)
    → distinct_ids (ids ++ uid ∷ []) ≡ cond (has_id ids uid) (distinct_ids ids) (distinct_ids ids ++ uid ∷ [])
distinct_ids-push [] _ = refl
distinct_ids-push (id ∷ ids) uid = elim (cases_Bool (has_id ids uid)) [
  | inl old ↦ rw (distinct_ids-push ids uid, old, or-true) refl
  | inr new ↦ elim (cases_Bool (bytes_eq uid id)) [
    | inl hit ↦ rw (
      distinct_ids-push ids uid,
      new,
      filter-append (λ o. not (bytes_eq id o)) (distinct_ids ids) (uid ∷ []),
      nat_list_eq_equiv.symm id uid,
      hit,
      append-nil,
    ) refl
    | inr miss ↦ rw (
      distinct_ids-push ids uid,
      new,
      filter-append (λ o. not (bytes_eq id o)) (distinct_ids ids) (uid ∷ []),
      nat_list_eq_equiv.symm id uid,
      miss,
    ) refl
  ]
]

-- the ids of these that have no row
abbrev new_of : List Row → List (List ℕ) → List (List ℕ)
new_of rows ids = filter (λ uid. not (has_row rows uid)) (distinct_ids ids)

has_id-new_of : (rows : List Row) (ids : List (List ℕ)) (uid : List ℕ)
    → has_id (new_of rows ids) uid ≡ (has_id ids uid && not (has_row rows uid))
has_id-new_of rows ids uid = cc (has_id-kept (λ id. not (has_row rows id)) (distinct_ids ids) uid, has_id-distinct_ids uid ids)

has_id-new_ids : (rows : List Row) (listing : List Item) (uid : List ℕ)
    → has_id (new_ids rows listing) uid ≡ (has_item listing uid && not (has_row rows uid))
has_id-new_ids rows listing uid = has_id-new_of rows (ids_of listing) uid
    ∙ ap (λ (b : Bool). b && not (has_row rows uid)) (any_map (bytes_eq uid) (λ (item : Item). item.uid) listing)

new_of-push : (rows : List Row) (ids : List (List ℕ)) (uid : List ℕ)
    → new_of rows (ids ++ uid ∷ []) ≡ cond (has_row rows uid || has_id ids uid) (new_of rows ids) (new_of rows ids ++ uid ∷ [])
new_of-push rows ids uid = rw distinct_ids-push (elim (cases_Bool (has_id ids uid)) [
  | inl old ↦ rw (old, or-true) refl
  | inr new ↦ rw (new, or-false, filter-append) (elim (cases_Bool (has_row rows uid)) [
    | inl has ↦ rw (has, append-nil) refl
    | inr none ↦ rw none refl
  ])
])

-- a loop that adds rows: the items before the i-th have rows
abbrev pub HasAdded : List Row → List Item → ℕ → ℕ → List Row → Type 0
HasAdded rows listing now i new = new ≡ rows ++ map (undelivered now) (new_ids rows (take i listing))

has_row-longer : (rows : List Row) (ids : List (List ℕ)) (now : ℕ) (uid : List ℕ)
    → has_row (rows ++ map (undelivered now) (new_of rows ids)) uid ≡ has_row rows uid || has_id ids uid
has_row-longer rows ids now uid =
    list_any-append (is_of uid) rows (map (undelivered now) (new_of rows ids))
    ∙ ap (λ (b : Bool). has_row rows uid || b) (any_map (is_of uid) (undelivered now) (new_of rows ids) ∙ has_id-new_of rows ids uid)
    ∙ grind arith

pub added_next : (rows : List Row) (listing : List Item) (now i : ℕ) (new : List Row) (uid : List ℕ)
    → HasAdded rows listing now i new → ((d : Item) → uid ≡ (get_or listing i d).uid) → i < length listing
    → rows ++ map (undelivered now) (new_ids rows (take (i + 1) listing)) ≡ cond (has_row new uid) new (new ++ undelivered now uid ∷ [])
added_next rows listing now i _ uid were at inside =
    ap (λ ids. rows ++ map (undelivered now) (new_of rows ids)) (map_more _ _ i nobody inside
    ∙ ap (λ id. ids_of (take i listing) ++ id ∷ []) (sym (at nobody))) ∙ rw (
      new_of-push,
      ap (λ rs. has_row rs uid) were ∙ has_row-longer rows (ids_of (take i listing)) now uid,
    ) (elim (cases_Bool (has_row rows uid || has_id (ids_of (take i listing)) uid)) [
      | inl old ↦ rw old (sym were)
      | inr none ↦ rw (none, were, map-append, append_assoc) refl
    ])

-- ---- which rows are delivered after a merge or a mark

delivered-with : (t : List ℕ → Bool) (rows : List Row) (uid : List ℕ)
    → is_delivered (map (λ row. with_delivered (t row.uid) row) rows) uid ≡ (is_delivered rows uid || (has_row rows uid && t uid))
delivered-with t [] _ = refl
delivered-with t (row ∷ rows) uid =
    let same : bytes_eq uid row.uid ≡ true → t row.uid ≡ t uid = λ e. ap t (sym (same_from_test _ _ e)) in
    rw (delivered-with t rows uid) (grind (arith, same))

pub delivered-marked : (rows : List Row) (uid other : List ℕ)
    → is_delivered (marked rows uid) other ≡ is_delivered rows other || (has_row rows other && bytes_eq uid other)
delivered-marked rows uid other = delivered-with (bytes_eq uid) rows other

pub has_row-marked : (rows : List Row) (uid other : List ℕ) → has_row (marked rows uid) other ≡ has_row rows other
has_row-marked rows uid other = any_map _ _ rows

none_new : (now : ℕ) (ids : List (List ℕ)) (uid : List ℕ) → is_delivered (map (undelivered now) ids) uid ≡ false
none_new _ [] _ = refl
none_new now (_ ∷ ids) uid = rw and-false (none_new _ ids _)

flagged_listed : (listing : List Item) (held : List Bool) (uid : List ℕ) → is_flagged listing held uid ≡ true → has_item listing uid ≡ true
flagged_listed [] _ _ flagged = cc
flagged_listed (item ∷ listing) [] uid flagged = cc
flagged_listed (item ∷ listing) (flag ∷ held) uid flagged =
    elim (or_cases (flag && bytes_eq item.uid uid) (is_flagged listing held uid) flagged) [
      | inl here ↦ or_left _ _ (nat_list_eq_equiv.symm uid item.uid ∙ (and_parts flag (bytes_eq item.uid uid) here).1)
      | inr further ↦ or_right _ _ (flagged_listed listing held uid further)
    ]

-- new rows of held ids are delivered
pub merged_steps : (rows : List Row) (listing : List Item) (held : List Bool) (now : ℕ)
    → with_held listing held (rows ++ map (undelivered now) (new_ids rows listing)) ≡ merged rows listing held now
merged_steps rows listing held now =
    cc (
      map-append (λ (row : Row). with_delivered (is_flagged listing held row.uid) row) rows (map (undelivered now) (new_ids rows listing)),
      map-map (λ (row : Row). with_delivered (is_flagged listing held row.uid) row) (undelivered now) (new_ids rows listing),
    )

pub delivered-merged : (rows : List Row) (listing : List Item) (held : List Bool) (now : ℕ) (uid : List ℕ)
    → is_delivered (merged rows listing held now) uid ≡ is_delivered rows uid || is_flagged listing held uid
delivered-merged rows listing held now uid =
    ap (λ (rs : List Row). is_delivered rs uid) (sym (merged_steps rows listing held now))
    ∙ delivered-with (is_flagged listing held) (rows ++ map (undelivered now) (new_ids rows listing)) uid ∙ rw (
      list_any-append (λ row. is_of uid row && row.delivered) rows (map (undelivered now) (new_ids rows listing)),
      none_new now (new_ids rows listing) uid,
      has_row-longer rows (ids_of listing) now uid,
      any_map (bytes_eq uid) (λ (item : Item). item.uid) listing,
    ) (let listed = flagged_listed listing held uid in grind (arith, listed))

pub has_row-merged : (rows : List Row) (listing : List Item) (held : List Bool) (now : ℕ) (uid : List ℕ)
    → has_row (merged rows listing held now) uid ≡ has_row rows uid || has_item listing uid
has_row-merged rows listing held now uid =
    ap (λ (rs : List Row). has_row rs uid) (sym (merged_steps rows listing held now))
    ∙ any_map (is_of uid) (λ (row : Row). with_delivered (is_flagged listing held row.uid) row)
    (rows ++ map (undelivered now) (new_ids rows listing)) ∙ has_row-longer rows (ids_of listing) now uid
    ∙ ap (λ (b : Bool). has_row rows uid || b) (any_map (bytes_eq uid) (λ (item : Item). item.uid) listing)

-- ---- a merge changes no more rows than the listing has messages

ids_among : (P : List ℕ → Type 0) (old new : List Row) → AllByRecursion P (map uid_of new) → AllByRecursion P (map uid_of (changed old new))
ids_among P (row ∷ old) (next ∷ new) each = cond_both (next.delivered && not row.delivered) _ _
    (λ rs. AllByRecursion P (map uid_of rs)) (λ _. (each.0, ids_among P old new each.1)) (λ _. ids_among P old new each.1)
ids_among P (_ ∷ _) [] _ = tt
ids_among P [] _ each = each

changed_are : (old new : List Row) → AllByRecursion IsRow new × IsDistinct bytes_eq (map uid_of new)
    → AllByRecursion IsRow (changed old new) × IsDistinct bytes_eq (map uid_of (changed old new))
unfolding IsDistinct
changed_are (row ∷ old) (next ∷ new) are =
    let rest = changed_are old new (are.0.1, are.1.1) in
    cond_both (next.delivered && not row.delivered) _ _ (λ (rs : List Row). AllByRecursion IsRow rs × IsDistinct bytes_eq (map uid_of rs))
    (λ _. ((are.0.0, rest.0), (ids_among _ old new are.1.0, rest.1))) (λ _. rest)
changed_are _ _ are = are

-- the id of each row that a merge changes is listed
changed_listed : (listing : List Item) (held : List Bool) (old more : List Row) (uid : List ℕ)
    → (has_row more uid ≡ true → has_item listing uid ≡ true)
    → has_row (changed old (with_held listing held old ++ more)) uid ≡ true → has_item listing uid ≡ true
changed_listed _ _ [] more _ new there = new there
changed_listed listing held (row ∷ old) more uid new there =
    let further = changed_listed listing held old more uid new in
    cond_both ((row.delivered || is_flagged listing held row.uid) && not row.delivered) _ _
    (λ (rs : List Row). has_row rs uid ≡ true → has_item listing uid ≡ true)
    (λ now at. let flagged : is_flagged listing held row.uid ≡ true = grind (arith, now)
    in elim (or_cases (is_of uid row) (has_row (changed old (with_held listing held old ++ more)) uid) at) [
      | inl here ↦ rw (same_from_test uid row.uid here) (flagged_listed listing held row.uid flagged)
      | inr behind ↦ further behind
    ]) (λ _ at. further at) there

-- the row of an id that is new
abbrev new_row : List Item → List Bool → ℕ → List ℕ → Row
new_row listing held now uid = record { uid = uid; first_seen = now; delivered = is_flagged listing held uid }

merge_is_short : (rows : List Row) (listing : List Item) (held : List Bool) (now : ℕ)
    → IsRecord (merged rows listing held now) → length (changed rows (merged rows listing held now)) ≤ length listing
merge_is_short rows listing held now is = omega (
  arith,
  length-le_from_is_member nat_list_eq_equiv (map uid_of group) (ids_of listing)
      (changed_are rows (merged rows listing held now) (recursion_from_All IsRow _ is.each, ids_distinct _ is)).1 (λ uid there.
      any_map (bytes_eq uid) (λ (item : Item). item.uid) listing ∙ changed_listed listing held rows _ uid
      (λ at. (and_parts _ _ (sym (any_map (is_of uid) (new_row listing held now) (new_ids rows listing)
      ∙ has_id-new_ids rows listing uid) ∙ at)).0) (sym (any_map (bytes_eq uid) uid_of group) ∙ there)),
  length-map group uid_of,
  length-map listing (λ (item : Item). item.uid),
)
  where
    group : List Row
    group = changed rows (merged rows listing held now)

-- ---- a listing whose ids are all recorded as delivered changes nothing, whatever is held

pub known_has_row : (rows : List Row) (uid : List ℕ) → is_delivered rows uid ≡ true → has_row rows uid ≡ true
known_has_row rows uid is = true_from_ne_false _ (λ none. true≢false (cc (none_of (λ state. state.delivered) uid rows none)))

-- rows that are delivered if they are chosen stay as they are
with_known : (t : List ℕ → Bool) (rows : List Row) → IsRecord rows → ((uid : List ℕ) → t uid ≡ true → is_delivered rows uid ≡ true)
    → map (λ row. with_delivered (t row.uid) row) rows ≡ rows
with_known t rows is all = map_fixed _ _ (λ k d inside. elim (cases_Bool (t (get_or rows k d).uid)) [
  | inl chosen ↦ same_row _ _ (sym (is_delivered-at _ k d is inside) ∙ all _ chosen)
  | inr left ↦ rw left (with_delivered-false _)
])

no_ids : (ids : List (List ℕ)) → ((uid : List ℕ) → has_id ids uid ≡ false) → ids ≡ []
no_ids [] _ = refl
no_ids (id ∷ _) none = absurd (true≢false (sym (or_left _ _ (test_from_same id id refl)) ∙ none id))

pub known_merge : (rows : List Row) (items : List Item) (held : List Bool) (now : ℕ) → IsRecord rows
    → All (λ (item : Item). is_delivered rows item.uid ≡ true) items → merged rows items held now ≡ rows
known_merge rows items held _ is all =
    rw (
      with_known (is_flagged items held) rows is (λ uid flagged. known uid (flagged_listed items held uid flagged)),
      no_ids (new_ids rows items) (λ uid.
          let has : has_item items uid ≡ true → has_row rows uid ≡ true = λ listed. known_has_row rows uid (known uid listed)
          in has_id-new_ids rows items uid ∙ grind (arith, has)),
    ) (append-nil rows)
  where
    known : (uid : List ℕ) → has_item items uid ≡ true → is_delivered rows uid ≡ true
    known uid listed = let there = Any-from_list_any _ items listed in
        rw (same_from_test uid there.1.uid there.4) (rw there.3 at (all there.0 there.1 there.2))

-- ---- a merge of flags that are alike for all other ids is the same

-- the row of an id that is new
abbrev undelivered_or : (List ℕ → Bool) → ℕ → List ℕ → Row
undelivered_or f now uid = record { uid = uid; first_seen = now; delivered = f uid }

module _ (f g : List ℕ → Bool) (rows : List Row) (is : IsRecord rows) (alike : (uid : List ℕ)
    → is_delivered rows uid ≡ false → f uid ≡ g uid) where
  with_alike : map (λ (row : Row). with_delivered (f row.uid) row) rows ≡ map (λ (row : Row). with_delivered (g row.uid) row) rows
  with_alike =
      let none : Row = record { uid = []; first_seen = 0; delivered = false } in
      let by_f : Row → Row = λ row. with_delivered (f row.uid) row in
      let by_g : Row → Row = λ row. with_delivered (g row.uid) row in
      ext_get_or none (map by_f rows) (map by_g rows) (length-map rows by_f ∙ sym (length-map rows by_g)) (λ i inside.
      let within : i < length rows = omega (arith, inside, length-map rows by_f) in
      let row = get_or rows i none in
      cc (
        get_or-map by_f rows i none none within,
        same_with row (is_delivered-at rows i none is within),
        get_or-map by_g rows i none none within,
      ))
    where
      same_with : (row : Row) → is_delivered rows row.uid ≡ row.delivered → with_delivered (f row.uid) row ≡ with_delivered (g row.uid) row
      same_with row shown = elim (cases_Bool row.delivered) [
        | inl done ↦ rw done refl
        | inr new ↦ cc (alike row.uid (shown ∙ new))
      ]

  new_alike : (now : ℕ) (ids : List (List ℕ))
      → map (λ (uid : List ℕ). undelivered_or f now uid) (filter (λ uid. not (has_row rows uid)) ids)
      ≡ map (λ (uid : List ℕ). undelivered_or g now uid) (filter (λ uid. not (has_row rows uid)) ids)
  new_alike _ [] = refl
  new_alike now (id ∷ ids) = elim (cases_Bool (has_row rows id)) [
    | inl has ↦ rw has (new_alike _ ids)
    | inr none ↦ rw (none, alike id (none_of (λ state. state.delivered) id rows none), new_alike now ids) refl
  ]

pub merged_alike : (rows : List Row) (listing : List Item) (held others : List Bool) (now : ℕ) → IsRecord rows
    → ((uid : List ℕ) → is_delivered rows uid ≡ false → is_flagged listing held uid ≡ is_flagged listing others uid)
    → merged rows listing held now ≡ merged rows listing others now
merged_alike rows listing held others now is alike =
    ap₂ (λ front behind. front ++ behind) (with_alike (is_flagged listing held) (is_flagged listing others) rows is alike)
    (new_alike _ _ rows is alike now (distinct_ids (map (λ item. item.uid) listing)))

-- ---- a loop over the flagged items

-- a held item with this id
abbrev pub stands_for : List ℕ → Item × Bool → Bool
stands_for uid flagged = flagged.1 && bytes_eq flagged.0.uid uid

-- the rows, with delivered set for the ids of those of these items that are held
abbrev with_flagged : List (Item × Bool) → List Row → List Row
with_flagged flagged rows = map (λ row. with_delivered (list_any (stands_for row.uid) flagged) row) rows

flagged_more : (flagged : List (Item × Bool)) (i : ℕ) (d : Item × Bool) → i < length flagged → (rows : List Row)
    → with_flagged (take (i + 1) flagged) rows ≡ map
    (λ row. with_delivered (stands_for row.uid (get_or flagged i d)) row) (with_flagged (take i flagged) rows)
flagged_more _ i d _ [] = refl
flagged_more flagged i d inside (row ∷ rest) =
    rw (
      list_any_more (stands_for row.uid) flagged i d inside,
      flagged_more flagged i d inside rest,
      or_assoc,
    ) refl

-- what two marks leave as it is the first one leaves too
first_keeps : (f : Row → Bool) (uid : List ℕ) (rows : List Row) → marked (map (λ row. with_delivered (f row) row) rows) uid ≡ rows
    → map (λ row. with_delivered (f row) row) rows ≡ rows
first_keeps f _ [] e = refl
first_keeps f uid (row ∷ rows) e =
    let here : ((row.delivered || f row) || is_of uid row) ≡ row.delivered = cc in
    let same : (row.delivered || f row) ≡ row.delivered = grind arith in
    ap₂ (λ b others. record row { delivered = b } ∷ others) same (first_keeps f uid rows cc)

-- the ids of these are marked
pub record HasMarked (flagged : List (Item × Bool)) (before : List Row) (changed : Bool) (rows : List Row) : Type 0 where
  pub rows_are : rows ≡ with_flagged flagged before
  pub more : changed ≡ true → rows ≢ before
  pub same : changed ≡ false → rows ≡ before
  pub good : IsRecord rows

unflagged : (rows : List Row) → map (λ row. with_delivered false row) rows ≡ rows
unflagged _ = map_fixed _ _ (λ k d _. with_delivered-false _)

pub HasMarked-none : (before : List Row) → IsRecord before → HasMarked [] before false before
HasMarked-none before good = record { rows_are = sym (unflagged _); more = λ e. cc; same = λ _. refl; good = good }

pub HasMarked-all : (listing : List Item) (held : List Bool) (i : ℕ) (before : List Row) (changed : Bool)
    (rows : List Row) → length listing ≤ i
    → HasMarked (take i (zip listing held)) before changed rows → rows ≡ with_held listing held before
HasMarked-all listing held i _ changed _ past has =
    rw (← take_all i (zip listing held) (omega (arith, length-zip listing held))) has.rows_are

-- the ids of those that are held and not delivered before are collected
abbrev pub HasHeldAnew : List Row → List Item → List Bool → ℕ → List (List ℕ) → Type 0
HasHeldAnew rows listing held i ids = (uid : List ℕ)
    → has_id ids uid ≡ (list_any (stands_for uid) (take i (zip listing held)) && not (is_delivered rows uid))

pub HasHeldAnew-all : (rows : List Row) (listing : List Item) (held : List Bool) (i : ℕ) (ids : List (List ℕ))
    → HasHeldAnew rows listing held i ids → length listing ≤ i
    → (uid : List ℕ) → has_id ids uid ≡ (is_flagged listing held uid && not (is_delivered rows uid))
HasHeldAnew-all _ listing held i _ were past = λ uid. rw (← take_all i (zip listing held) (omega (arith, past, length-zip))) (were uid)

module _ (listing : List Item) (held : List Bool) (i : ℕ) (same : length held ≡ length listing) (inside : i < length listing) where
  within : i < length (zip listing held)
  within = omega (arith, length-zip)

  next_is : get_or (zip listing held) i (nobody, false) ≡ (get_or listing i nobody, get_or held i false)
  next_is = get_or-zip _ _ i _ inside (omega arith)

  pub HasMarked-held : (uid : List ℕ) (before : List Row) (changed : Bool) (rows : List Row) (now_changed : Bool)
      (new : List Row) → ((d : Item) → uid ≡ (get_or listing i d).uid) → get_or held i false ≡ true
      → HasMarked (take i (zip listing held)) before changed rows → new ≡ marked rows uid
      → OnTrue now_changed (new ≢ rows) → OnFalse now_changed (new ≡ rows) → IsRecord new
      → HasMarked (take (i + 1) (zip listing held)) before (changed || now_changed) new
  HasMarked-held uid before changed _ now_changed _ at is has new_is differs agrees good = record {
    rows_are = rw (flagged_more (zip listing held) i (nobody, false) within before, next_is, is, new_is, has.rows_are, at nobody) refl;
    more = λ e done.
        let old = has.rows_are ∙ first_keeps _ _ _ (sym (new_is ∙ ap (λ rs. marked rs uid) has.rows_are) ∙ done) in
        elim (or_cases changed now_changed e) [
          | inl before' ↦ has.more before' old
          | inr now ↦ OnTrue_at now differs (cc)
        ];
    same = λ e. let parts = or_parts _ _ e in OnFalse_at parts.1 agrees ∙ has.same parts.0;
    good = good;
  }

  pub HasMarked-free : (before : List Row) (changed : Bool) (rows : List Row) → get_or held i false ≡ false
      → HasMarked (take i (zip listing held)) before changed rows → HasMarked (take (i + 1) (zip listing held)) before changed rows
  HasMarked-free before changed _ is has = record {
    rows_are = rw (
      flagged_more (zip listing held) i (nobody, false) within before,
      next_is,
      is,
      unflagged,
    ) has.rows_are;
    more = has.more;
    same = has.same;
    good = has.good;
  }

  pub HasHeldAnew-more : (rows : List Row) (ids new : List (List ℕ)) (uid : List ℕ) (b : Bool)
      → HasHeldAnew rows listing held i ids → ((d : Item) → uid ≡ (get_or listing i d).uid)
      → b ≡ (get_or held i false && not (is_delivered rows uid))
      → ((id : List ℕ) → has_id new id ≡ ((b && bytes_eq id uid) || has_id ids id)) → HasHeldAnew rows listing held (i + 1) new
  HasHeldAnew-more rows _ _ uid b were at b_is added = λ id.
      let same : bytes_eq id uid ≡ true
      → is_delivered rows id ≡ is_delivered rows uid = λ e. ap (is_delivered rows) (same_from_test id _ e) in
      added id ∙ rw (
        were id,
        list_any_more (stands_for id) (zip listing held) i (nobody, false) within,
        next_is,
        ← at nobody,
        nat_list_eq_equiv.symm uid id,
      ) (grind (arith, same, b_is))

-- a record's first rows are those of an older one, some of them delivered since
abbrev pub GrewFrom : List Row → List Row → Type 0
GrewFrom [] _ = Unit {0}
GrewFrom (_ ∷ _) [] = ⊥
GrewFrom (row ∷ old) (next ∷ new) = (next.uid ≡ row.uid) × (next.first_seen ≡ row.first_seen)
    × (row.delivered ≡ true → next.delivered ≡ true) × GrewFrom old new

-- rows, some of them delivered now
abbrev pub delivered_by : (Row → Bool) → List Row → List Row
delivered_by f rows = map (λ row. with_delivered (f row) row) rows

GrewFrom-more : (f : Row → Bool) (rows more : List Row) → GrewFrom rows (delivered_by f rows ++ more)
GrewFrom-more f [] more = tt
GrewFrom-more f (_ ∷ rows) more = (refl, refl, (λ old. or_left _ _ old), GrewFrom-more f rows _)

-- a group's rows lead from the older record to the newer one
record Leads (rows group new : List Row) : Type 0 where
  follows : MayFollow rows group
  ends : taken_all rows group ≡ new

leads_first : (rows : List Row) (row : Row) (group new then : List Row) → may_take Two rows row ≡ true
    → with_taken rows row ≡ then → Leads then group new → Leads rows (row ∷ group) new
leads_first _ _ group _ then may is leads = record { follows = (may, rw is leads.follows); ends = rw is leads.ends }

leads_new : (rows new : List Row) → IsRecord (rows ++ new) → Leads rows new (rows ++ new)
leads_new rows [] _ = record { follows = tt; ends = sym (append-nil rows) }
leads_new rows (row ∷ new) is =
    let none = fresh _ new row is in
    let whole = append_assoc rows (row ∷ []) new in
    leads_first _ _ new (rows ++ row ∷ new) (rows ++ row ∷ []) (rw none refl) (rw none refl)
    (rw whole at (leads_new (rows ++ row ∷ []) new (rw whole is)))

behind_rows : (front rows : List Row) → IsRecord (front ++ rows) → IsRecord rows
behind_rows [] _ is = is
behind_rows (_ ∷ front) _ is = behind_rows front _ (rest_of _ _ is)

-- the older rows have no id that the newer ones lack
older_lack : (uid : List ℕ) (old new : List Row) → GrewFrom old new → has_row new uid ≡ false → has_row old uid ≡ false
older_lack _ [] _ _ _ = refl
older_lack _ (_ ∷ _) [] grew _ = absurd grew
older_lack uid (_ ∷ old) (next ∷ new) grew lack =
    let parts = or_parts _ _ lack in
    rw (← grew.0) (or_from _ _ parts.0 (older_lack _ old new grew.3 parts.1))

-- the row that was delivered since
module _ (front : List Row) (row : Row) (old : List Row) (next : Row) (new : List Row)
    (grew : GrewFrom (row ∷ old) (next ∷ new)) (now : next.delivered ≡ true) where
  marked_row : IsRecord (front ++ next ∷ new) → marked (front ++ row ∷ old) next.uid ≡ front ++ next ∷ old
  marked_row is = rw (
    map-append,
    unmarked next.uid front (fresh front new next is),
    test_from_same next.uid row.uid grew.0,
    or-true,
    unmarked next.uid old (older_lack next.uid old new grew.3
        (apart next.uid next new (behind_rows front (next ∷ new) is) (test_from_same next.uid next.uid refl))),
  ) (λ i. front ++ record { uid = sym grew.0 i; first_seen = sym grew.1 i; delivered = sym now i } ∷ old)

  has_it : has_row (front ++ row ∷ old) next.uid ≡ true
  has_it = list_any-append (is_of next.uid) front (row ∷ old) ∙ or_right _ _ (or_left _ _ (test_from_same _ _ grew.0))

  delivers_it : delivers Two (front ++ row ∷ old) next ≡ true
  delivers_it = and_from _ _ now (list_any-append (λ other. is_of next.uid other && (true && (other.first_seen == next.first_seen))) front
      (row ∷ old) ∙ or_right _ _ (or_left _ _ (and_from _ _ (test_from_same _ _ grew.0)
      (eq-eqb row.first_seen next.first_seen (sym grew.1)))))

-- the states of a row that stayed
stayed : (before now : Bool) → (before ≡ true → now ≡ true) → (now && not before) ≡ false → now ≡ before
stayed _ _ stays none = grind arith

leads : (front old new : List Row) → IsRecord (front ++ new) → GrewFrom old new → Leads (front ++ old) (changed old new) (front ++ new)
leads front [] new is _ = rw append-nil (leads_new _ new is)
leads _ (_ ∷ _) [] _ grew = absurd grew
leads front (row ∷ old) (next ∷ new) is grew =
    let whole = append_assoc front (next ∷ []) new in
    let rest = rw (append_assoc front (next ∷ []) old, whole) at (leads (front ++ next ∷ []) old new (rw whole is) grew.3) in
    cond_both (next.delivered && not row.delivered) _ _ (λ (group : List Row). Leads (front ++ row ∷ old) group (front ++ next ∷ new))
    (λ since. let now = (and_parts next.delivered (not row.delivered) since).0 in
    leads_first (front ++ row ∷ old) next (changed old new) (front ++ next ∷ new) (front ++ next ∷ old)
    (or_right _ _ (delivers_it front row old next new grew now))
    (rw (has_it front row old next new grew now) (marked_row front row old next new grew now is)) rest)
    (λ none. subst (λ (r : Row). Leads (front ++ r ∷ old) (changed old new) (front ++ next ∷ new)) (λ i. record {
      uid = grew.0 i;
      first_seen = grew.1 i;
      delivered =
          stayed row.delivered next.delivered grew.2 none i;
    }) rest)

updates : (old new : List Row) → IsRecord new → GrewFrom old new → length (changed old new) ≤ 100000
    → Updates old None (written (changed old new)) new None
updates old new is grew short = by _ short (leads [] old new is grew)
    (All-from_recursion _ _ (changed_are _ _ (recursion_from_All _ _ is.each, ids_distinct _ is)).0)
  where
    by : (group : List Row) → length group ≤ 100000 → Leads old group new → All IsRow group → Updates old None (written group) new None
    by [] _ leads' _ = inl (refl, sym leads'.ends, refl)
    by (row ∷ rows) short' leads' each =
        inr (
          row ∷ rows,
          record { each = each; count = (omega arith, short'); follows = leads'.follows },
          refl,
          sym leads'.ends,
          refl,
        )

-- one more row, as a loop goes over the rows
changed-nil : (rows : List Row) → changed rows [] ≡ []
changed-nil [] = refl
changed-nil (_ ∷ _) = refl

abbrev now_of : (Row → Bool) → Row → Row
now_of f row = with_delivered (f row) row

changed-skips : (count : ℕ) (f : Row → Bool) (front : List Row) (row : Row) → length front < count
    → ((now_of f row).delivered && not row.delivered) ≡ false
    → changed (take count (front ++ row ∷ [])) (delivered_by f (front ++ row ∷ [])) ≡ changed (take count front) (delivered_by f front)
changed-skips zero f _ _ inside _ = absurd (omega (arith, inside))
changed-skips (suc count) f [] _ _ none = rw none (changed-nil _)
changed-skips (suc count) f (_ ∷ front) row inside none = rw (changed-skips count f front row (omega (arith, inside)) none) refl

changed-adds : (count : ℕ) (f : Row → Bool) (front : List Row) (row : Row) → (count ≤ length front)
    ⊎ (((now_of f row).delivered && not row.delivered) ≡ true)
    → changed (take count (front ++ row ∷ [])) (delivered_by f (front ++ row ∷ [])) ≡ changed (take count front)
    (delivered_by f front) ++ now_of f row ∷ []
changed-adds zero f front row _ = map-append (now_of f) front (row ∷ [])
changed-adds (suc _) f [] _ (inl past) = absurd (omega (arith, past))
changed-adds (suc count) f [] _ (inr now) = rw (now, changed-nil (take count [])) refl
changed-adds (suc count) f (first ∷ front) row either =
    rw (changed-adds count f front row (elim either [ inl past ↦ inl (omega (arith, past)) | inr now ↦ inr now ]))
    (elim (cases_Bool ((now_of f first).delivered && not first.delivered)) [ inl now ↦ rw now refl | inr same ↦ rw same refl ])

-- ---- a loop over the rows

pub next_rows : (rows : List Row) (i : ℕ) (row : Row) → i < length rows → get_or rows i row ≡ row
    → take (i + 1) rows ≡ take i rows ++ row ∷ []
next_rows rows i _ inside at = take_more _ i _ inside ∙ ap (λ r. take i rows ++ r ∷ []) at

-- the lines of those that changed among the first i, and how many they are
abbrev pub HasWritten : ℕ → (Row → Bool) → List Row → ℕ → ℕ → List ℕ → Type 0
HasWritten count f rows i changes lines =
    (changes ≡ length (changed (take count (take i rows)) (delivered_by f (take i rows))))
    × (lines ≡ flat_map record_row_line (changed (take count (take i rows)) (delivered_by f (take i rows))))

module _ (count : ℕ) (f : Row
    → Bool) (rows : List Row) (i changes : ℕ) (lines : List ℕ) (were : HasWritten count f rows i changes lines) where
  pub HasWritten-skips : (row : Row) → i < length rows → get_or rows i row ≡ row → i < count
      → (row.delivered || f row) ≡ row.delivered → HasWritten count f rows (i + 1) changes lines
  HasWritten-skips row inside at before same =
      rw (
        next_rows rows i row inside at,
        changed-skips count f (take i rows) row (omega (arith, before, length-take i rows, inside)) (grind (arith, same)),
      ) were

  pub HasWritten-adds : (changes' : ℕ) (lines' : List ℕ) (row : Row) → i < length rows → get_or rows i row ≡ row
      → (count ≤ i) ⊎ ((row.delivered || f row) ≢ row.delivered) → changes' ≡ changes + 1
      → lines' ≡ lines ++ record_row_line (with_delivered (f row) row) → HasWritten count f rows (i + 1) changes' lines'
  HasWritten-adds _ _ row inside at either changes_are lines_are =
      let group = changed (take count (take i rows)) (delivered_by f (take i rows)) in
      rw (
        next_rows rows i row inside at,
        changed-adds count f (take i rows) row (elim either [
          | inl past ↦ inl (omega (arith, past, length-take i rows, inside))
          | inr other ↦ inr (grind (arith, other))
        ]),
      ) (
        cc (length-append group (now_of f row ∷ [])),
        lines_are ∙ ap (λ (xs : List ℕ). xs ++ record_row_line (now_of f row)) were.1
            ∙ flat_map_more record_row_line [] group (now_of f row),
      )

pub merge_updates : (rows longer new : List Row) (listing : List Item) (held : List Bool) (now : ℕ)
    → longer ≡ rows ++ map (undelivered now) (new_ids rows listing) → new ≡ with_held listing held longer → IsRecord new
    → length listing ≤ 100000 → Updates rows None (written (changed rows new)) new None
merge_updates rows _ _ listing held now longer_is new_is is short =
    let all = new_is ∙ ap (with_held listing held) longer_is ∙ merged_steps _ _ _ _ in
    let good = subst IsRecord all is in
    rw all (updates _ _ good (GrewFrom-more _ _ _) (omega (arith, short, merge_is_short)))

pub ruleset merge_laws = (delivered-merged, merged_alike, has_row-merged, known_merge, known_has_row, delivered-marked, has_row-marked)
