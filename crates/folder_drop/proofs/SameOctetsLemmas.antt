-- What two readers show next tells whether they have the same octets left, or leaves it to the rest.
use Rattle.std.{
  proofs.Common.{◌≡◌, ◌≢◌, ◌≤◌, ◌++◌, ◌∷◌, ◌∙◌, ℕ, Bool, false, List, [], Option, Some, None, IfSome, take, drop, length, refl, ap, sym},
  proofs.Common.{take-take, rules},
  proofs.lemmas.{Bool.false≢true, Option.none-some},
  specs.Io.{StartsWith, KnownBytes.Consumes},
}
use Rattle.folder_drop.specs.SameOctets.{TellsSame}

append_same : (front xs ys : List ℕ) → front ++ xs ≡ front ++ ys → xs ≡ ys
append_same [] xs ys e = e
append_same (x ∷ front) xs ys e = append_same front xs ys (ap (drop 1) e)

-- both began with the same octets, so they are the same exactly if what is left is
pub later_same : (a b c d : Option (List ℕ)) (front other : List ℕ) → front ≡ other → Consumes a c front → Consumes b d other
    → (answer : Bool) → TellsSame c d answer → TellsSame a b answer
later_same None b c d front other same p q answer tells = λ xs ys e _. absurd (none-some xs e)
later_same (Some x) None c d front other same p q answer tells = λ xs ys _ e. absurd (none-some ys e)
later_same (Some x) (Some y) None d front other same p q answer tells = absurd p
later_same (Some x) (Some y) (Some z) None front other same p q answer tells = absurd q
later_same (Some x) (Some y) (Some z) (Some w) front other same p q answer tells = λ xs ys e f.
    let rest = tells z w refl refl in
    let there : z ≡ w → xs ≡ ys = λ g. search rules in
    (λ h. there (rest.0 h), λ h. rest.1 (append_same front z w (search rules)))

-- where the shown octets differ, all octets do
pub different : (a b : Option (List ℕ)) (s t : List ℕ) (n : ℕ) → n ≤ length s → n ≤ length t → IfSome a (λ xs. StartsWith xs s)
    → IfSome b (λ ys. StartsWith ys t) → take n s ≢ take n t → TellsSame a b false
different None b s t n p q f g ne = λ xs ys e _. absurd (none-some xs e)
different (Some x) None s t n p q f g ne = λ xs ys _ e. absurd (none-some ys e)
different (Some x) (Some y) s t n p q f g ne = λ xs ys e h.
    let shown : take n x ≡ take n s = sym (take-take n (length s) x p) ∙ ap (take n) f in
    let other : take n y ≡ take n t = sym (take-take n (length t) y q) ∙ ap (take n) g in
    (λ no. absurd (false≢true no), λ same. absurd (ne (search (rules, shown, other))))
