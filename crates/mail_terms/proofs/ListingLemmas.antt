-- The rows of a listing, found by their numbers.
use Rattle.std.proofs.{
  Common.{◌≡◌, ℕ, suc, ◌<◌, ◌≤◌, ◌+◌, ◌-◌, List, [], ◌∷◌, ◌++◌, length, get_or, map, take, drop, All, refl, sym, subst, ◌∙◌, ap, arith},
  Common.{rules, length-append, length-drop, take_all},
  lemmas.List.{get_or-map, get_or_default, length-map, map-append, drop-append-le, take-append-le, Elements.{All-map, All-push}},
  lemmas.Simd.map-map,
  Math.Seq.drop-append_seam,
}
use Rattle.mail_terms.specs.{
  declared.listing.{Span.Span, UidPlace.UidPlace, ItemPlace.ItemPlace, ScanRow.ScanRow},
  UniqueId.IsLegalId,
  Numbering.{IsNumbering, IsOrderOf},
  Listing.{Item, UidRow, Joins, message_limit},
  IdPlaces.{id_at, row_at, item_at, IsIdAt, HoldRows, AreAt},
}

-- the place that is found for a row's number is the row's own
pub place_of_row : {Row : Type 0} (number : Row → ℕ) (n : ℕ) (rows : List Row) (places : List ℕ)
    → IsNumbering n (map number rows) → IsOrderOf n (map number rows) places
    → (k : ℕ) (row : Row) → k < length rows → (number (get_or rows k row) - 1 < n) × (get_or places (number (get_or rows k row) - 1) 0 ≡ k)
place_of_row number n rows places numbering order k row inside =
    let there : k < length (map number rows) = omega (arith, length-map rows number) in
    let same = get_or-map number rows k row 0 inside in
    (omega (arith, same, numbering.within k 0 there), rw same at (order.found k there))

-- ---- ids in one buffer

pub short_id : (id : List ℕ) → IsLegalId id → length id ≤ 70
short_id id legal = search (rules, arith)

-- an id stays where it is as others are added
id_stays : (ids more : List ℕ) (span : Span) → IsIdAt ids span → id_at (ids ++ more) span ≡ id_at ids span
id_stays ids more span is =
    ap (take (span.end - span.start)) (drop-append-le span.start ids more (omega (arith, is.order, is.within)))
    ∙ take-append-le (span.end - span.start) (drop span.start ids) more (omega (arith, is.within, length-drop span.start ids))

stays_id : (ids more : List ℕ) (span : Span) → IsIdAt ids span → IsIdAt (ids ++ more) span
stays_id ids more span is = record {
  order = is.order;
  within = omega (arith, is.within, length-append ids more);
  legal = rw (id_stays ids more span is) is.legal;
}

rows_stay : (ids more : List ℕ) (places : List UidPlace) → All (λ place. IsIdAt ids place.span) places
    → map (row_at (ids ++ more)) places ≡ map (row_at ids) places
rows_stay ids more [] are = refl
rows_stay ids more (place ∷ places) are =
    rw (
      id_stays ids more place.span (are 0 place (omega arith)),
      rows_stay ids more places (λ k other below. are (suc k) other (omega arith)),
    ) refl

-- an id that is added
module _ (ids uid : List ℕ) (place : UidPlace) (starts : place.span.start ≡ length ids)
    (ends : place.span.end ≡ length ids + length uid) where
  added_id : id_at (ids ++ uid) place.span ≡ uid
  added_id = rw (starts, ends, drop-append_seam ids uid) (take_all _ uid (omega arith))

  pub row_added : (places : List UidPlace) → HoldRows ids places
      → map (row_at (ids ++ uid)) (places ++ place ∷ []) ≡ map (row_at ids) places ++ record { number = place.number; uid = uid } ∷ []
  row_added places hold = rw (map-append (row_at (ids ++ uid)) places (place ∷ []), rows_stay ids uid places hold.are, added_id) refl

  pub holds_added : (places : List UidPlace) → HoldRows ids places → IsLegalId uid → length places < message_limit
      → HoldRows (ids ++ uid) (places ++ place ∷ [])
  holds_added places hold legal few = record {
    are = All-push (λ (p : UidPlace). IsIdAt (ids ++ uid) p.span) places place
        (λ k other below. stays_id ids uid _ (hold.are k other below))
        (record { order = omega (arith, starts, ends); within = omega (arith, ends, length-append ids uid); legal = rw added_id legal });
    few = omega (arith, length-append places (place ∷ []));
    short = omega (arith, hold.short, short_id uid legal, length-append ids uid, length-append places (place ∷ []));
  }

-- ---- rows joined by their places

no_span : Span
no_span = record { start = 0; end = 0 }

no_row : UidPlace
no_row = record { number = 0; span = no_span }

no_item : ItemPlace
no_item = record { span = no_span; size = 0 }

-- rows are numbered as their places are
pub numbered_by_places : (ids : List ℕ) (places : List UidPlace) (rows : List UidRow) (n : ℕ) → map (row_at ids) places ≡ rows
    → IsNumbering n (map (λ row. row.number) rows) → IsNumbering n (map (λ row. row.number) places)
numbered_by_places ids places rows n same numbering =
    subst (IsNumbering n) (ap (map (λ (row : UidRow). row.number)) (sym same)
    ∙ map-map (λ (row : UidRow). row.number) (row_at ids) places) numbering

pub within_places : (n m : ℕ) (numbers places : List ℕ) → IsOrderOf n numbers places → length numbers ≡ m → All (λ place. place < m) places
within_places n m numbers places order same k d inside =
    rw (get_or_default places k d 0 inside) (omega (arith, order.within k (omega (arith, order.count)), same))

module _ (ids : List ℕ) (n : ℕ) (uids : List UidPlace) (sizes : List ScanRow) (uid_places size_places : List ℕ) (items : List ItemPlace)
    (uid_order : IsOrderOf n (map (λ row. row.number) uids) uid_places) (count : length items ≡ length uid_places)
    (rows : AreAt uids uid_places sizes size_places items) where
  pub joins_from_places : IsNumbering n (map (λ row. row.number) uids) → IsNumbering n (map (λ row. row.number) sizes)
      → IsOrderOf n (map (λ row. row.number) sizes) size_places → Joins n (map (row_at ids) uids) sizes (map (item_at ids) items)
  joins_from_places uid_numbers size_numbers size_order = record {
    agree = (subst (IsNumbering n) (sym (map-map (λ (row : UidRow). row.number) (row_at ids) uids)) uid_numbers, size_numbers);
    count = length-map items (item_at ids) ∙ count ∙ uid_order.count;
    ids = λ k row inside item.
        let within : k < length uids = omega (arith, length-map uids (row_at ids)) in
        let there = place_of_row (λ (r : UidPlace). r.number) n uids uid_places uid_numbers uid_order k no_row within in
        let below : (get_or uids k no_row).number - 1 < length items = omega (arith, there.0, count, uid_order.count) in
        rw (
          get_or-map (row_at ids) uids k no_row row within,
          get_or-map (item_at ids) items ((get_or uids k no_row).number - 1) no_item item below,
        ) (ap (id_at ids) (rows.spans _ no_item no_row below ∙ ap (λ (j : ℕ). (get_or uids j no_row).span) there.1));
    octets = λ k row inside item.
        let there = place_of_row (λ (r : ScanRow). r.number) n sizes size_places size_numbers size_order k row inside in
        let below : (get_or sizes k row).number - 1 < length items = omega (arith, there.0, count, uid_order.count) in
        rw (get_or-map (item_at ids) items ((get_or sizes k row).number - 1) no_item item below)
        (rows.octets _ no_item row below ∙ ap (λ (j : ℕ). (get_or sizes j row).size) there.1);
  }

  pub items_have_ids : All (λ row. IsIdAt ids row.span) uids → All (λ item. IsIdAt ids item.span) items
  items_have_ids are k item inside =
      subst (IsIdAt ids) (sym (rows.spans k item no_row inside)) (are _ no_row (omega (
        arith,
        uid_order.within k (omega (arith, count, uid_order.count)),
        length-map uids (λ (row : UidPlace). row.number),
      )))

pub ids_are_legal : (ids : List ℕ) (items : List ItemPlace) → All (λ item. IsIdAt ids item.span) items
    → All (λ item. IsLegalId item.uid) (map (item_at ids) items)
ids_are_legal ids items are = All-map (λ (item : Item). IsLegalId item.uid) (item_at ids) items (λ k item inside. (are k item inside).legal)
