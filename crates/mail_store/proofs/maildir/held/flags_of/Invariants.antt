use Rattle.std.proofs.Common.{◌≡◌, map, take}
use Rattle.mail_terms.specs.Listing.{Item}
use Rattle.hex.specs.Hex.{encode_lower}
use Rattle.mail_store.specs.Held.{has_text}
use Rattle.mail_store.proofs.maildir.held.flags_of.Given as goal

-- the flags of the items so far
abbrev pub invariant-loop-i : goal.invariant-loop-i
invariant-loop-i l = l.flags.items ≡ map (λ (item : Item). has_text l.found (encode_lower item.uid)) (take l.i l.listing)
