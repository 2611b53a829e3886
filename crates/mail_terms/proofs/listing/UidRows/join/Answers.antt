use Rattle.std.proofs.{Common.{List, Err, length, map, ap, sym, subst, arith}, lemmas.List.length-map}
use Rattle.mail_terms.{
  specs.{declared.listing.{UidPlace.UidPlace, ScanRow.ScanRow}, IdPlaces.item_at, Listing.{Joins, UidRow}},
  proofs.ListingLemmas.{numbered_by_places, within_places, joins_from_places, items_have_ids, ids_are_legal},
}
use Rattle.mail_terms.proofs.listing.UidRows.join.Goals as goal

pub returns-in_err-uid_places-clause-disagree : goal.returns-in_err-uid_places-clause-disagree
returns-in_err-uid_places-clause-disagree c =
    λ is agree. c.in_err-uid_places.ensures.disagree (ap Err (sym (rw is at c.from_residual-in_err-uid_places.ensures.1)))
    (rw (c.deref-2.ensures.value, c.in_ok-uid_numbers.ensures, c.deref.ensures.value)
    (numbered_by_places c.self.inside.ids.items _ _ _ c.self.view_is agree.0))

pub items_at-requires-clause-uids_within : goal.items_at-requires-clause-uids_within
items_at-requires-clause-uids_within c =
    rw (c.deref-5.ensures.value, c.deref-4.ensures.value) (within_places _ _ _ _ c.in_ok-uid_places.ensures.order (omega (
      arith,
      ap length c.deref-2.ensures.value,
      ap length c.in_ok-uid_numbers.ensures,
      ap length c.deref.ensures.value,
      length-map c.deref.result.now (λ (row : UidPlace). row.number),
    )))

pub items_at-requires-clause-sizes_within : goal.items_at-requires-clause-sizes_within
items_at-requires-clause-sizes_within c =
    rw (c.deref-6.ensures.value) (within_places _ _ _ _ c.in_ok-size_places.ensures.order (omega (
      arith,
      ap length c.deref-3.ensures.value,
      ap length c.in_ok-size_numbers.ensures,
      length-map c.args.sizes.now (λ (row : ScanRow). row.number),
    )))

pub invariant_of-result : goal.invariant_of-result
invariant_of-result c =
    let order = rw (c.deref-2.ensures.value, c.in_ok-uid_numbers.ensures, c.deref.ensures.value) at c.in_ok-uid_places.ensures.order in
    let rows = rw (c.deref-4.ensures.value, c.deref-5.ensures.value, c.deref-6.ensures.value) at c.in_ok-items.ensures.rows in
    let count = rw (c.deref-5.ensures.value) at c.in_ok-items.ensures.count in
    (omega (arith, count, order.count), items_have_ids c.self.inside.ids.items _ _ _ _ _ _ order count rows c.self.invariant.are)

pub returns-clause-joined : goal.returns-clause-joined
returns-clause-joined c =
    let ids = c.self.inside.ids.items in
    let order = rw (c.deref-2.ensures.value, c.in_ok-uid_numbers.ensures, c.deref.ensures.value) at c.in_ok-uid_places.ensures.order in
    let numbering = rw (c.deref-2.ensures.value, c.in_ok-uid_numbers.ensures, c.deref.ensures.value) at
    c.in_ok-uid_places.ensures.numbering in
    let size_order = rw (c.deref-3.ensures.value, c.in_ok-size_numbers.ensures) at c.in_ok-size_places.ensures.order in
    let size_numbering = rw (c.deref-3.ensures.value, c.in_ok-size_numbers.ensures) at c.in_ok-size_places.ensures.numbering in
    let rows = rw (c.deref-4.ensures.value, c.deref-5.ensures.value, c.deref-6.ensures.value) at c.in_ok-items.ensures.rows in
    let count = rw (c.deref-5.ensures.value) at c.in_ok-items.ensures.count in
    subst (λ (uids : List UidRow). Joins c.args.n uids c.args.sizes.now (map (item_at ids) c.in_ok-items.items.items)) c.self.view_is
    (joins_from_places ids _ _ _ _ _ _ order count rows numbering size_numbering size_order)

pub returns-clause-legal : goal.returns-clause-legal
returns-clause-legal c =
    let ids = c.self.inside.ids.items in
    let order = rw (c.deref-2.ensures.value, c.in_ok-uid_numbers.ensures, c.deref.ensures.value) at c.in_ok-uid_places.ensures.order in
    let rows = rw (c.deref-4.ensures.value, c.deref-5.ensures.value, c.deref-6.ensures.value) at c.in_ok-items.ensures.rows in
    let count = rw (c.deref-5.ensures.value) at c.in_ok-items.ensures.count in
    ids_are_legal ids c.in_ok-items.items.items (items_have_ids ids _ _ _ _ _ _ order count rows c.self.invariant.are)
