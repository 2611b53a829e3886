use Rattle.std.proofs.Common.{◌≡◌, length}
use Rattle.mail_terms.specs.IdPlaces.{AreAt}
use Rattle.mail_terms.proofs.listing.items_at.Given as goal

abbrev pub invariant-loop-index : goal.invariant-loop-index
invariant-loop-index l = (length l.items.items ≡ l.index) × AreAt l.uids l.uid_places l.sizes l.size_places l.items.items
