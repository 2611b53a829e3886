-- How many octets of a text are a way to write something.
use Rattle.std.proofs.{
  Common.{◌≡◌, ◌≢◌, ◌≤◌, ◌⊎◌, ◌+◌, ◌++◌, ◌∙◌, ◌∷◌, ℕ, Bor, List, [], MatchOption, Option, None, Some},
  Common.{ap, append_assoc, arith, drop, inl, inr, length, length-append, max, option_map, refl, subst, sym, take},
  Math.{Nat.{max-eq_left, max-eq_right}, Seq.{drop-append_seam, take-append-add}},
  lemmas.{Bool.cases_lt, List.{length-take-le, take-append-drop}},
}
use Rattle.std.specs.Char.{to_ascii_lowercase}
use Rattle.trace.specs.Masking.{HasFront, IsLongest, IsMix, longer, percent_encoded}

-- one of two ways
pub longer_is : (P Q : List ℕ → Type 0) (text : List ℕ) (a b : Option ℕ) → IsLongest P text a → IsLongest Q text b
    → IsLongest (λ written. P written ⊎ Q written) text (longer a b)
longer_is P Q text None None p q = λ size fits is. elim is [
  | inl one ↦ p size fits one
  | inr other ↦ q size fits other
]
longer_is P Q text None (Some n) p q = (
  q.0,
  inr q.1,
  λ size fits is. elim is [
    | inl one ↦ absurd (p size fits one)
    | inr other ↦ q.2 size fits other
  ],
)
longer_is P Q text (Some m) None p q = (
  p.0,
  inl p.1,
  λ size fits is. elim is [
    | inl one ↦ p.2 size fits one
    | inr other ↦ absurd (q size fits other)
  ],
)
longer_is P Q text (Some m) (Some n) p q = elim (cases_lt m n) [
  | inl below ↦ subst (λ k. IsLongest (λ written. P written ⊎ Q written) text (Some k)) (sym (max-eq_right {n = m} {m = n} (omega arith))) (
    q.0,
    inr q.1,
    λ size fits is. elim is [
      | inl one ↦ let least = p.2 size fits one in omega arith
      | inr other ↦ q.2 size fits other
    ],
  )
  | inr above ↦ subst (λ k. IsLongest (λ written. P written ⊎ Q written) text (Some k)) (sym (max-eq_left {n = m} {m = n} above)) (
    p.0,
    inl p.1,
    λ size fits is. elim is [
      | inl one ↦ p.2 size fits one
      | inr other ↦ let least = q.2 size fits other in omega arith
    ],
  )
]

pub longer_to : (P Q : List ℕ → Type 0) (text : List ℕ) (a b r : Option ℕ) → r ≡ longer a b → IsLongest P text a → IsLongest Q text b
    → IsLongest (λ written. P written ⊎ Q written) text r
longer_to P Q text a b r is p q = subst (λ r. IsLongest (λ written. P written ⊎ Q written) text r) (sym is) (longer_is P Q text a b p q)

-- what follows a front, within a text that begins with it
within : (front after rest : List ℕ) (size : ℕ) → size ≤ length (front ++ after) → take size (front ++ after) ≡ front ++ rest
    → (size ≡ length front + length rest) × (length rest ≤ length after) × (take (length rest) after ≡ rest)
within front after rest size fits is =
    let sizes = sym (length-take-le size (front ++ after) fits) ∙ (ap length is ∙ length-append front rest) in
    let whole = length-append front after in
    let least : length rest ≤ length after = omega (arith, sizes, whole) in
    let here = sym (take-append-add front after (length rest)) ∙ (ap (λ n. take n (front ++ after)) (sym sizes) ∙ is) in (
      sizes,
      least,
      sym (drop-append_seam front (take (length rest) after)) ∙ (ap (drop (length front)) here ∙ drop-append_seam front rest),
    )

-- a front, and then what is so
pub follows_is : (P : List ℕ → Type 0) (front after text : List ℕ) (r : Option ℕ) → text ≡ front ++ after → IsLongest P after r
    → IsLongest (HasFront front P) text (option_map (λ size. length front + size) r)
follows_is P front after text None same longest = λ size fits follows.
    let (rest, is, whole) = follows in
    let (sizes, least, here) = within front after rest size (subst (λ (t : List ℕ). size ≤ length t) same fits)
    (ap (take size) (sym same) ∙ whole) in
    longest (length rest) least (subst P (sym here) is)
follows_is P front after text (Some most) same longest = (
  let whole = ap length same ∙ length-append front after in omega (arith, whole, longest.0),
  (take most after, longest.1, ap (take (length front + most)) same ∙ take-append-add front after most),
  λ size fits follows.
      let (rest, is, whole) = follows in
      let (sizes, least, here) = within front after rest size (subst (λ (t : List ℕ). size ≤ length t) same fits)
      (ap (take size) (sym same) ∙ whole) in
      let most_is = longest.2 (length rest) least (subst P (sym here) is) in
      omega (arith, sizes, most_is),
)

-- a text that doesn't begin with the front
pub follows_none : (P : List ℕ → Type 0) (front text : List ℕ) → ((rest : List ℕ) → text ≢ front ++ rest)
    → IsLongest (HasFront front P) text None
follows_none P front text other = λ size fits follows.
    let (rest, is, whole) = follows in
    let left = append_assoc front rest (drop size text) in
    other (rest ++ drop size text) (sym (take-append-drop size text) ∙ (ap (λ t. t ++ drop size text) whole ∙ left))

-- what follows a front, if the text begins with it
pub step : (P : List ℕ → Type 0) (front text : List ℕ) (after : Option (Bor (List ℕ))) (r : Option ℕ)
    → MatchOption after ((rest : List ℕ) → text ≢ front ++ rest) (λ rest. text ≡ front ++ rest.now)
    → MatchOption after (r ≡ None) (λ rest. IsLongest P rest.now r)
    → IsLongest (HasFront front P) text (option_map (λ size. length front + size) r)
step P front text None r other none =
    subst (λ r. IsLongest (HasFront front P) text (option_map (λ size. length front + size) r)) (sym none) (follows_none P front text other)
step P front text (Some rest) r same longest = follows_is P front rest.now text r same longest

pub step_to : (P : List ℕ → Type 0) (front front' text : List ℕ) (after : Option (Bor (List ℕ))) (r r' : Option ℕ) (n : ℕ) → front ≡ front'
    → n ≡ length front' → r' ≡ option_map (λ size. n + size) r
    → MatchOption after ((rest : List ℕ) → text ≢ front ++ rest) (λ rest. text ≡ front ++ rest.now)
    → MatchOption after (r ≡ None) (λ rest. IsLongest P rest.now r) → IsLongest (HasFront front' P) text r'
step_to P front front' text after r r' n same sizes is other longest =
    let to = is ∙ ap (λ (k : ℕ). option_map (λ size. k + size) r) (sizes ∙ ap length (sym same)) in
    subst (λ (f : List ℕ). IsLongest (HasFront f P) text r') same
    (subst (λ s. IsLongest (HasFront front P) text s) (sym to) (step P front text after r other longest))

-- a mix of one octet more
pub mix_is : (password : List ℕ) (octet : ℕ) (rest text : List ℕ) (plain encoded r : Option ℕ) → password ≡ octet ∷ rest
    → r ≡ longer plain encoded → IsLongest (HasFront (to_ascii_lowercase octet ∷ []) (IsMix rest)) text plain
    → IsLongest (HasFront (percent_encoded octet) (IsMix rest)) text encoded
    → IsLongest (IsMix password) text r
mix_is password octet rest text plain encoded r same is p e =
    let longest = longer_to (HasFront (to_ascii_lowercase octet ∷ []) (IsMix rest)) (HasFront (percent_encoded octet) (IsMix rest)) text
    plain encoded r is p e in
    subst (λ (s : List ℕ). IsLongest (IsMix s) text r) (sym same) longest

-- a mix of no octets
pub mix_none : (password text : List ℕ) → password ≡ [] → IsLongest (IsMix password) text (Some 0)
mix_none password text same = subst (λ (s : List ℕ). IsLongest (IsMix s) text (Some 0)) (sym same) (
  omega arith,
  refl,
  λ size fits is. let none = sym (length-take-le size text fits) ∙ ap length is in omega (arith, none),
)

-- the same way
pub way_is : (text way way' : List ℕ) (r : Option ℕ) → way ≡ way' → IsLongest (λ written. written ≡ way) text r
    → IsLongest (λ written. written ≡ way') text r
way_is text way way' r same longest = subst (λ (w : List ℕ). IsLongest (λ written. written ≡ w) text r) same longest
