use Rattle.std.proofs.{Common.{◌≡◌, ◌∙◌, List, ℕ, [], ◌∷◌, ◌++◌, length, map, ap, arith, length-append}, lemmas.List.length-map}
use Rattle.mail_terms.{
  specs.{declared.listing.UidPlace.UidPlace, Listing.UidRow, IdPlaces.row_at},
  proofs.ListingLemmas.{row_added, holds_added},
}
use Rattle.mail_terms.proofs.listing.UidRows.push.Goals as goal

pub invariant_of-self-2 : goal.invariant_of-self-2
invariant_of-self-2 c =
    let ids = c.self.inside.ids.items in
    let uid = c.args.uid.now in
    let grown : c.extend_from_slice.new.self.items ≡ ids ++ uid = c.in_ok-extend_from_slice.ensures.items in
    rw (grown, c.push_reserved.ensures.items, c.in_ok-reserve.ensures.items)
    (holds_added ids uid _ (omega arith) (omega (arith, ap length grown, length-append ids uid)) c.self.inside.places.items
    c.self.invariant c.requires.legal
    (omega (arith, c.requires.few, ap length c.self.view_is, length-map c.self.inside.places.items (row_at ids))))

pub returns-clause-ok : goal.returns-clause-ok
returns-clause-ok c =
    let ids = c.self.inside.ids.items in
    let uid = c.args.uid.now in
    let grown : c.extend_from_slice.new.self.items ≡ ids ++ uid = c.in_ok-extend_from_slice.ensures.items in
    let place : UidPlace = record { number = c.args.number; span = record { start = c.len-start.result; end = c.len-end.result } } in
    ap (λ (bytes : List ℕ). map (row_at bytes) c.push_reserved.new.self.items) grown
    ∙ ap (map (row_at (ids ++ uid))) (c.push_reserved.ensures.items
    ∙ ap (λ (places : List UidPlace). places ++ place ∷ []) c.in_ok-reserve.ensures.items)
    ∙ row_added ids uid place (omega arith) (omega (arith, ap length grown, length-append ids uid))
    c.self.inside.places.items c.self.invariant
    ∙ ap (λ (rows : List UidRow). rows ++ record { number = c.args.number; uid = uid } ∷ []) c.self.view_is
