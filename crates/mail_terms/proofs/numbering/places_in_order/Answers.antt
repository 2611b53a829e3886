use Rattle.std.proofs.Common.{arith}
use Rattle.mail_terms.proofs.NumberingLemmas.{not_numbering_missing, numbering_from_places}
use Rattle.mail_terms.proofs.numbering.places_in_order.Goals as goal

pub returns-in_default-clause-disagree : goal.returns-in_default-clause-disagree
returns-in_default-clause-disagree c =
    let has = rw (← c.deref-slot-items.ensures.value) at c.in_ok-slots.ensures.ok in
    λ _ numbering. not_numbering_missing _ _ _ _ has (omega (arith, has.room)) c.in_default.is numbering

pub returns-clause-numbering : goal.returns-clause-numbering
returns-clause-numbering c =
    let has = rw (← c.deref-slot-items.ensures.value) at c.in_ok-slots.ensures.ok in
    (numbering_from_places _ _ _ c.loop-slot.places.items has (omega (arith, has.room))
    (λ k inside. c.loop-slot.invariant.1 k (omega (arith, has.room)))).0

pub returns-clause-order : goal.returns-clause-order
returns-clause-order c =
    let has = rw (← c.deref-slot-items.ensures.value) at c.in_ok-slots.ensures.ok in
    (numbering_from_places _ _ _ c.loop-slot.places.items has (omega (arith, has.room))
    (λ k inside. c.loop-slot.invariant.1 k (omega (arith, has.room)))).1
