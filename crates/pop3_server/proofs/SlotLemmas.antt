-- The messages at the places of a maildrop.
use Rattle.std.proofs.{
  Common.{◌≡◌, ℕ, zero, suc, ◌+◌, ◌<◌, ◌≤◌, List, [], ◌∷◌, ◌++◌, map, take, drop, length, get_or, Option, Some, None, slice_set, refl, sym},
  Common.{◌∙◌, ap, subst, arith, inl, inr, is_some, Contains, filter, remove, ◌⊎◌, ◌≢◌, take-append-drop, drop-cons},
  lemmas.List.{take_more, map-append, Elements.{Contains-append_right, Contains-get_or}, Quantifiers.{all_pairs_push, all_pairs_remove}},
}
use Rattle.mail_terms.specs.Distinct.{AreDistinct}
use Rattle.pop3_wire.specs.World.{Message}
use Rattle.pop3_server.specs.Maildrop.{there, ids}

pub distinct_push : (xs : List (List ℕ)) (x : List ℕ) → AreDistinct xs → (Contains xs x → ⊥) → AreDistinct (xs ++ x ∷ [])
distinct_push xs x distinct absent =
    all_pairs_push (λ a b. a ≢ b) xs x distinct (λ k d fits e. absent (subst (λ y. Contains xs y) e (Contains-get_or xs k d fits)))

-- ---- places in order

pub there-append : (xs ys : List (Option Message)) → there (xs ++ ys) ≡ there xs ++ there ys
there-append [] ys = refl
there-append (None ∷ xs) ys = there-append xs ys
there-append (Some m ∷ xs) ys = ap (λ l. m ∷ l) (there-append xs ys)

pub there_more : (slots : List (Option Message)) (i : ℕ) (slot : Option Message) → i < length slots
    → slot ≡ get_or slots i slot → there (take (i + 1) slots) ≡ there (take i slots) ++ there (slot ∷ [])
there_more slots i slot fits is =
    ap there (take_more slots i slot fits) ∙ there-append (take i slots) (get_or slots i slot ∷ [])
    ∙ ap (λ s. there (take i slots) ++ there (s ∷ [])) (sym is)

pub there_map : (ms : List Message) → there (map (λ m. Some m) ms) ≡ ms
there_map [] = refl
there_map (m ∷ ms) = ap (λ l. m ∷ l) (there_map ms)

pub filter_there : (slots : List (Option Message)) → filter is_some slots ≡ map (λ m. Some m) (there slots)
filter_there [] = refl
filter_there (None ∷ slots) = filter_there slots
filter_there (Some m ∷ slots) = ap (λ l. Some m ∷ l) (filter_there slots)

-- ---- ids that occur once

-- a removal takes one id away, or none
removed_ids : (slots : List (Option Message)) (i : ℕ) → (length (there (slice_set slots i None)) ≤ length (there slots))
    × ((ids (slice_set slots i None) ≡ ids slots)
    ⊎ ((n : ℕ) × (n < length (ids slots)) × (ids (slice_set slots i None) ≡ remove (ids slots) n)))
removed_ids [] i = (omega arith, inl refl)
removed_ids (None ∷ slots) zero = (omega arith, inl refl)
removed_ids (Some m ∷ slots) zero = (omega arith, inr (0, omega arith, refl))
removed_ids (None ∷ slots) (suc i) = removed_ids slots i
removed_ids (Some m ∷ slots) (suc i) = let less = removed_ids slots i in (
  omega (arith, less.0),
  elim less.1 [
    | inl same ↦ inl (ap (λ l. m.uid ∷ l) same)
    | inr gone ↦ inr (suc gone.0, omega (arith, gone.1), ap (λ l. m.uid ∷ l) gone.2)
  ],
)

pub count_removed : (slots : List (Option Message)) (i : ℕ) → length (there (slice_set slots i None)) ≤ length (there slots)
count_removed slots i = (removed_ids slots i).0

pub distinct_removed : (slots : List (Option Message)) (i : ℕ) → AreDistinct (ids slots) → AreDistinct (ids (slice_set slots i None))
distinct_removed slots i distinct = elim (removed_ids slots i).1 [
  | inl same ↦ rw same distinct
  | inr gone ↦ rw gone.2 (all_pairs_remove (λ a b. a ≢ b) (ids slots) gone.0 gone.1 distinct)
]

-- the message at a place is there
pub Contains-slot : (slots : List (Option Message)) (i : ℕ) (slot : Option Message) (m : Message) → i < length slots
    → slot ≡ get_or slots i slot → slot ≡ Some m → Contains (ids slots) m.uid
Contains-slot slots i slot m fits is some =
    let split : slots ≡ take i slots ++ Some m ∷ drop (suc i) slots = sym (take-append-drop i slots)
    ∙ ap (λ l. take i slots ++ l) (drop-cons slots i slot fits ∙ rw (← is, some)) in
    subst (λ s. Contains (ids s) m.uid) (sym split)
    (rw (there-append, map-append) (Contains-append_right (ids (take i slots)) (m.uid ∷ ids (drop (suc i) slots))
    m.uid (0, omega arith, refl)))
