-- What a link gives if it repeats a pattern.
use Rattle.std.{
  specs.List.repeat,
  proofs.{
    Common.{◌≡◌, inl, inr, ◌<◌, ◌≤◌, ◌+◌, ◌-◌, ◌%◌, ◌++◌, ℕ, zero, suc, List, length, take, drop, sym, ap, ◌∙◌, arith},
    Common.{append_assoc, length-append, length-take-le},
    Math.{Seq.{take-add, drop-append-add}, Nat.{mod-eq_of_lt, add-mod_left}},
    lemmas.{Bool.cases_lt, List.{take-append-le, drop-append-le, take_at, take_rest}},
  },
}
use Rattle.test_devices.specs.Endless.{first_given}

repeat_long : (n : ℕ) (p : List ℕ) → 0 < length p → n ≤ length (repeat n p)
repeat_long zero p some = omega arith
repeat_long (suc n) p some = omega (arith, length-append p (repeat n p), repeat_long n p some)

repeat_more : (n d : ℕ) (p : List ℕ) → repeat (n + d) p ≡ repeat n p ++ repeat d p
repeat_more zero d p = ap (λ (k : ℕ). repeat k p) (omega arith)
repeat_more (suc n) d p =
    ap (λ (k : ℕ). repeat k p) {y = suc (n + d)} (omega arith) ∙ rw (repeat_more n d p) (sym (append_assoc p (repeat n p) (repeat d p)))

-- after any number of octets of a repeated pattern, the pattern goes on
repeat_at : (count place : ℕ) (p : List ℕ) → 0 < length p → place < count
    → (rest : List ℕ) × (drop place (repeat count p) ≡ drop (place % length p) p ++ rest)
repeat_at zero place p some below = absurd (omega arith)
repeat_at (suc count) place p some below = elim (cases_lt place (length p)) [
  | inl first ↦ (repeat count p, rw (mod-eq_of_lt first) (drop-append-le place p (repeat count p) (omega arith)))
  | inr past ↦
      let whole : length p + (place - length p) ≡ place = omega arith in
      let (rest, is) = repeat_at count (place - length p) p some (omega arith) in
      let moved : (place - length p) % length p ≡ place % length p =
      sym (add-mod_left (length p) (place - length p)) ∙ ap (λ (k : ℕ). k % length p) whole in (
        rest,
        ap (λ (k : ℕ). drop k (p ++ repeat count p)) (sym whole) ∙ drop-append-add p (repeat count p) (place - length p)
            ∙ is ∙ ap (λ (k : ℕ). drop k p ++ rest) moved,
      )
]

-- the first `given` octets are that many
pub given_length : (front p : List ℕ) (given : ℕ) → 0 < length p → length (first_given front p given) ≡ given
given_length front p given some = length-take-le given (front ++ repeat given p)
    (omega (arith, length-append front (repeat given p), repeat_long given p some))

-- the next piece after the front
pub pattern_follows : (front p : List ℕ) (given count : ℕ) → 0 < length p → length front ≤ given → given < count
    → (rest : List ℕ) × (drop given (front ++ repeat count p)
    ≡ take (length p - (given - length front) % length p) (drop ((given - length front) % length p) p) ++ rest)
pattern_follows front p given count some past below =
    let place : length front + (given - length front) ≡ given = omega arith in
    let found = repeat_at count (given - length front) p some (omega arith) in
    (found.0, rw take_rest (rw place at (drop-append-add front (repeat count p) (given - length front)) ∙ found.1))

-- what was copied from the next piece follows what was given
pub next_given : (front p piece copied rest : List ℕ) (given n : ℕ) → 0 < length p → n ≤ length piece → copied ≡ take n piece
    → ((count : ℕ) → given < count → (after : List ℕ) × (drop given (front ++ repeat count p) ≡ piece ++ after)) → 0 < n
    → first_given front p given ++ take n (copied ++ rest) ≡ first_given front p (length (first_given front p given) + n)
next_given front p piece copied rest given n some small is_copied follows goes =
    let next = follows (given + n) (omega arith) in
    let before : take given (front ++ repeat (given + n) p) ≡ first_given front p given =
    rw (repeat_more given n p, ← append_assoc front (repeat given p) (repeat n p))
    (take-append-le given (front ++ repeat given p) (repeat n p)
    (omega (arith, length-append front (repeat given p), repeat_long given p some))) in
    rw (given_length front p given some, is_copied, take_at (take n piece) rest n (length-take-le n piece small))
    (sym (take-add given n (front ++ repeat (given + n) p) ∙ rw (before, next.1, take-append-le n piece next.0 small)))
