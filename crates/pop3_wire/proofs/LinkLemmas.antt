-- What follows from one call of a link, and from calls one after another.
use Rattle.pop3_wire.specs.{declared.wire.Wire.Ghosts, Link.WhereSound}

module _ {W : Type 0} (link : Ghosts W) where
  -- what follows from what a call did
  pub in_words : {a b : W} {P Q : Type 0} → WhereSound link.sound link.leads_to a b P → (P → Q) → WhereSound link.sound link.leads_to a b Q
  in_words did words sound = let all = did sound in (all.0, all.1, words all.2)

  -- a call and then another
  pub and_then : {a b c : W} {P Q R : Type 0} → ((u v w : W) → link.leads_to u v → link.leads_to v w → link.leads_to u w)
      → WhereSound link.sound link.leads_to a b P → WhereSound link.sound link.leads_to b c Q → (P → Q → R)
      → WhereSound link.sound link.leads_to a c R
  and_then on first second both sound =
      let later = second sound in
      let all = first later.0 in
      (all.0, on _ _ _ all.1 later.1, both all.2 later.2)

  -- three calls
  pub and_then_two : {a b c d : W} {P Q R S : Type 0} → ((u v w : W) → link.leads_to u v → link.leads_to v w → link.leads_to u w)
      → WhereSound link.sound link.leads_to a b P → WhereSound link.sound link.leads_to b c Q
      → WhereSound link.sound link.leads_to c d R → (P → Q → R → S) → WhereSound link.sound link.leads_to a d S
  and_then_two {Q = Q} {R = R} on first second third all =
      and_then on first (and_then {R = Q × R} on second third (λ q r. (q, r))) (λ p both. all p both.0 both.1)
