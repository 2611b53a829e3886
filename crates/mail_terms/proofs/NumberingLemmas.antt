-- The table of places and the list of numbers.
use Rattle.std.proofs.{
  Common.{◌≡◌, ◌≢◌, ℕ, ◌<◌, ◌≤◌, ◌+◌, ◌-◌, List, [], ◌∷◌, All, Option, Some, None, true, false, length, get_or, set, is_some, sym},
  Common.{◌∙◌, ap, inl, inr, arith, below_more},
  Math.Dec.eqb,
  lemmas.{
    Bool.{cases_eq, eqb-true, Decides.Decides-eqb},
    List.{get_or-set_same, get_or-set_other, length-set, get_or_default, Elements.All-cons, Kept.AllPairs-cons, Folds.Any-from_list_any},
    Map.{Made.IsDistinct-from_AllPairs, Steps.length-le_from_distinct_below},
    Option.{none-some, same_Some},
  },
}
use Rattle.mail_terms.specs.Numbering.{IsNumbering, HasPlaces, IsOrderOf}

-- a list with a number whose slot isn't free isn't a numbering
pub not_numbering_taken : (n : ℕ) (xs : List ℕ) (i : ℕ) (slots : List (Option ℕ)) (slot : Option ℕ)
    → HasPlaces n xs i slots → i < length xs → 1 ≤ get_or xs i 0 → get_or xs i 0 ≤ n
    → slot ≡ get_or slots (get_or xs i 0 - 1) slot → is_some slot ≡ true → IsNumbering n xs → ⊥
not_numbering_taken n xs i slots None has inside low high is there numbering = cc
not_numbering_taken n xs i slots (Some place) has inside low high is there numbering =
    let held = has.back (get_or xs i 0 - 1) place (get_or_default slots _ None (Some place) (omega (arith, has.room)) ∙ sym is) in
    numbering.distinct place i 0 held.0 inside (omega (arith, held.1))

-- a number whose slot is free gets its place there
pub has_places_free : (n : ℕ) (xs : List ℕ) (i : ℕ) (slots : List (Option ℕ)) (slot : Option ℕ) → HasPlaces n xs i slots
    → 1 ≤ get_or xs i 0 → get_or xs i 0 ≤ n → slot ≡ get_or slots (get_or xs i 0 - 1) slot → is_some slot ≡ false
    → HasPlaces n xs (i + 1) (set slots (get_or xs i 0 - 1) (Some i))
has_places_free n xs i slots (Some place) has low high is free = cc
has_places_free n xs i slots None has low high free is =
    let own = get_or xs i 0 - 1 in
    let set_here = get_or-set_same slots own (Some i) None (omega (arith, has.room)) in
    record {
      room = length-set slots own (Some i) ∙ has.room;
      within = below_more _ i has.within (low, high);
      found = below_more _ i (λ place before. elim (cases_eq (get_or xs place 0 - 1) own) [
        | inl same ↦ absurd (none-some place (free ∙ ap (λ k. get_or slots k None) (sym same) ∙ has.found place before))
        | inr other ↦ get_or-set_other slots own (get_or xs place 0 - 1) (Some i) None other ∙ has.found place before
      ]) set_here;
      back = λ slot place held. elim (cases_eq slot own) [
        | inl same ↦
            let here = same_Some i place (sym set_here ∙ ap (λ k. get_or (set slots own (Some i)) k None) (sym same) ∙ held) in
            omega (arith, here, same, ap (λ k. get_or xs k 0) here)
        | inr other ↦ omega (arith, has.back slot place (sym (get_or-set_other slots own slot (Some i) None other) ∙ held))
      ];
    }

-- a list whose table has no place for a number isn't a numbering
pub not_numbering_missing : (n : ℕ) (xs : List ℕ) (slots : List (Option ℕ)) (k : ℕ) → HasPlaces n xs (length xs) slots
    → k < n → get_or slots k None ≡ None → IsNumbering n xs → ⊥
not_numbering_missing n xs slots k has inside free numbering =
    let there = numbering.complete (k + 1) (omega arith) (omega arith) in
    let same : get_or xs there.0 0 - 1 ≡ k = omega (arith, there.2, get_or_default xs there.0 0 (k + 1) there.1) in
    none-some there.0 (sym free ∙ ap (λ j. get_or slots j None) (sym same) ∙ has.found there.0 there.1)

-- a list whose table has no free slot is a numbering
pub numbering_from_places : (n : ℕ) (xs : List ℕ) (slots : List (Option ℕ)) (places : List ℕ)
    → HasPlaces n xs (length xs) slots → length places ≡ n
    → ((k : ℕ) → k < n → get_or slots k None ≡ Some (get_or places k 0)) → IsNumbering n xs × IsOrderOf n xs places
numbering_from_places n xs slots places has count full = (
  record {
    complete = λ number low high.
        let h = has.back (number - 1) (get_or places (number - 1) 0) (full (number - 1) (omega arith)) in
        (get_or places (number - 1) 0, h.0, get_or_default xs _ number 0 h.0 ∙ h.1 ∙ omega arith);
    distinct = λ i j d before inside same.
        let e = get_or_default xs i 0 d (omega arith) ∙ same ∙ get_or_default xs j d 0 inside in
        let one = same_Some i j (sym (has.found i (omega arith)) ∙ ap (λ m. get_or slots (m - 1) None) e ∙ has.found j inside) in
        omega (arith, one);
    within = λ k d inside. rw (get_or_default xs k 0 d inside) at (has.within k inside);
  },
  record {
    count = count;
    within = λ k inside. (has.back k (get_or places k 0) (full k inside)).0;
    found = λ place inside. sym (same_Some place _ (sym (has.found place inside)
        ∙ full (get_or xs place 0 - 1) (omega (arith, has.within place inside))));
  },
)

-- a numbering of 1 to n has no more than n numbers
pub few_numbers : (n : ℕ) (xs : List ℕ) → IsNumbering n xs → length xs ≤ n
few_numbers n xs numbering =
    let apart = AllPairs-cons (λ x y. x ≢ y) 0 xs (λ k d inside same. omega (arith, numbering.within k d inside, same))
    numbering.distinct in
    let within : All (λ q. q < n + 1) (0 ∷ xs) = All-cons (λ q. q < n + 1) 0 xs (omega arith)
    (λ k d inside. omega (arith, numbering.within k d inside)) in
    let most = length-le_from_distinct_below (0 ∷ xs) (n + 1) (IsDistinct-from_AllPairs Decides-eqb (0 ∷ xs) apart)
    (λ q found. let (k, x, inside, is, same) = Any-from_list_any (eqb q) (0 ∷ xs) found in
    omega (arith, within k x inside, is, eqb-true q x same)) in
    omega (arith, most)
