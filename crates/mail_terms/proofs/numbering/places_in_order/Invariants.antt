use Rattle.std.proofs.Common.{◌≡◌, ℕ, ◌<◌, length, get_or, Some, None}
use Rattle.mail_terms.proofs.numbering.places_in_order.Given as goal

abbrev pub invariant-loop-slot : goal.invariant-loop-slot
invariant-loop-slot l = (length l.places.items ≡ l.slot-index)
    × ((k : ℕ) → k < l.slot-index → get_or l.slot-items k None ≡ Some (get_or l.places.items k 0))
