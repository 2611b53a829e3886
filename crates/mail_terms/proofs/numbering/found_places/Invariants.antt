use Rattle.mail_terms.specs.Numbering.{HasPlaces}
use Rattle.mail_terms.proofs.numbering.found_places.Given as goal

abbrev pub invariant-loop-place : goal.invariant-loop-place
invariant-loop-place l = HasPlaces l.count l.numbers l.place l.slots.items
