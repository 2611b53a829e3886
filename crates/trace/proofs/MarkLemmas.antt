-- Which octets of an answer are marked.
use Rattle.std.proofs.{
  Common.{◌≡◌, ◌≤◌, ◌<◌, ◌+◌, ◌++◌, ◌∙◌, ℕ, List, [], ◌∷◌, Option, None, Some, true, false, ap, arith, drop},
  Common.{get_or, inl, inr, length, length-append, length-drop, max, nat_lt, slice_index, refl, subst, sym, take, if◌then◌else◌},
  Math.{Nat.{eq-or-lt_of_le, max-eq_left, max-eq_right}, ListN.get_or-append, Seq.get_or-append_seam},
  lemmas.{Bool.{cases_lt, cond-true, cond-false, Decides.nat_tests}, List.length-map},
}
use Rattle.std.specs.Char.{to_ascii_lowercase}
use Rattle.trace.specs.{Masking.{AreMarked, IsCovered, IsLongest, Writes, lower}, Ways.{WritesFrom, end_after}}

-- of the first octets those are hidden that write the secret, up to where the ways go that begin in them
pub record Reach (answer secret : List ℕ) (start end : ℕ) : Type 0 where
  pub reached : 0 < end → (from : ℕ) × (size : ℕ) × (from < start) × (from + size ≡ end) × WritesFrom answer secret from size
  pub greatest : (from size : ℕ) → from < start → WritesFrom answer secret from size → from + size ≤ end

pub record GoesOn (answer secret : List ℕ) (start end : ℕ) (parts : List (Option ℕ)) : Type 0 where
  pub reach : Reach answer secret start end
  pub marked : AreMarked answer secret start parts

-- none yet
pub none_marked : (answer secret : List ℕ) → GoesOn answer secret 0 0 []
none_marked answer secret = record {
  reach = record { reached = λ above. absurd (omega (arith, above)); greatest = λ from size below. absurd (omega (arith, below)) };
  marked = record {
    each = refl;
    hidden = λ place below. absurd (omega (arith, below));
    kept = λ place below. absurd (omega (arith, below));
  };
}

reached_after : (answer secret : List ℕ) (start end : ℕ) (r : Option ℕ) → start < length answer
    → Reach answer secret start end → IsLongest (Writes secret) (drop start (lower answer)) r
    → 0 < end_after end start r → (from : ℕ) × (size : ℕ) × (from < start + 1) × (from + size ≡ end_after end start r)
    × WritesFrom answer secret from size
reached_after answer secret start end None fits so longest above =
    let (from, size, below, is, written) = so.reached above in (from, size, omega arith, is, written)
reached_after answer secret start end (Some size) fits so longest above = elim (cases_lt end (start + size)) [
  | inl below ↦
      let sizes = length-drop start (lower answer) in
      let same = length-map answer to_ascii_lowercase in (
        start,
        size,
        omega arith,
        sym (max-eq_right {n = end} {m = start + size} (omega arith)),
        record { within = omega (arith, sizes, same, longest.0); writes = longest.1 },
      )
  | inr least ↦
      let far = max-eq_left {n = end} {m = start + size} least in
      let (from, size', below, is, written) = so.reached (subst (λ n. 0 < n) far above) in
      (from, size', omega arith, is ∙ sym far, written)
]

greatest_after : (answer secret : List ℕ) (start end : ℕ) (r : Option ℕ) → start < length answer
    → Reach answer secret start end → IsLongest (Writes secret) (drop start (lower answer)) r
    → (from size : ℕ) → from < start + 1 → WritesFrom answer secret from size → from + size ≤ end_after end start r
greatest_after answer secret start end None fits so longest from size below written =
    elim (eq-or-lt_of_le {n = from} {m = start} (omega arith)) [
      | inl here ↦
          let now = subst (λ n. WritesFrom answer secret n size) here written in
          let sizes = length-drop start (lower answer) in
          let same = length-map answer to_ascii_lowercase in
          absurd (longest size (omega (arith, sizes, same, now.within)) now.writes)
      | inr before ↦ so.greatest from size before written
    ]
greatest_after answer secret start end (Some most) fits so longest from size below written =
    elim (eq-or-lt_of_le {n = from} {m = start} (omega arith)) [
      | inl here ↦
          let now = subst (λ n. WritesFrom answer secret n size) here written in
          let sizes = length-drop start (lower answer) in
          let same = length-map answer to_ascii_lowercase in
          let least = longest.2 size (omega (arith, sizes, same, now.within)) now.writes in
          omega (arith, least, here)
      | inr before ↦ let least = so.greatest from size before written in omega (arith, least)
    ]

reach_after : (answer secret : List ℕ) (start end : ℕ) (r : Option ℕ) → start < length answer → Reach answer secret start end
    → IsLongest (Writes secret) (drop start (lower answer)) r → Reach answer secret (start + 1) (end_after end start r)
reach_after answer secret start end r fits so longest = record {
  reached = reached_after answer secret start end r fits so longest;
  greatest = greatest_after answer secret start end r fits so longest;
}

covered_below : (answer secret : List ℕ) (start end : ℕ) → Reach answer secret (start + 1) end → start < end
    → IsCovered answer secret start
covered_below answer secret start end so below =
    let (from, size, before, to, written) = so.reached (omega (arith, below)) in
    record {
      start = from;
      size = size;
      within = written.within;
      writes = written.writes;
      from = omega (arith, before);
      before = omega (arith, to, below);
    }

below_covered : (answer secret : List ℕ) (start end : ℕ) → Reach answer secret (start + 1) end
    → IsCovered answer secret start → start < end
below_covered answer secret start end so covered =
    let writes : WritesFrom answer secret covered.start covered.size = record { within = covered.within; writes = covered.writes } in
    let far = so.greatest covered.start covered.size (omega (arith, covered.from)) writes in
    omega (arith, far, covered.before)

-- an octet is kept unless a way that covers it goes on
pub kept_by : (start end octet : ℕ) (part : Option ℕ) → part ≡ (if nat_lt start end then None else Some octet)
    → (start < end → part ≡ None) × ((start < end → ⊥) → part ≡ Some octet)
kept_by start end octet part is = (
  λ below. let on : nat_lt start end ≡ true = grind (arith, nat_tests, below) in is ∙ cond-true _ _ _ on,
  λ above. let off : nat_lt start end ≡ false = grind (arith, nat_tests, above) in is ∙ cond-false _ _ _ off,
)

-- one octet more
pub goes_on : (answer secret : List ℕ) (start end : ℕ) (parts : List (Option ℕ)) (r : Option ℕ) (part : Option ℕ) → start < length answer
    → GoesOn answer secret start end parts → IsLongest (Writes secret) (drop start (lower answer)) r
    → (start < end_after end start r → part ≡ None) → ((start < end_after end start r → ⊥) → part ≡ Some (slice_index answer start))
    → GoesOn answer secret (start + 1) (end_after end start r) (parts ++ part ∷ [])
goes_on answer secret start end parts r part fits so longest hides keeps =
    let reach = reach_after answer secret start end r fits so.reach longest in
    let at : get_or (parts ++ part ∷ []) start None ≡ part =
    subst (λ (n : ℕ). get_or (parts ++ part ∷ []) n None ≡ part) so.marked.each (get_or-append_seam parts part [] None) in
    record {
      reach = reach;
      marked = record {
        each = length-append parts (part ∷ []) ∙ ap (λ n. n + 1) so.marked.each;
        hidden = λ place below covered. elim (eq-or-lt_of_le {n = place} {m = start} (omega (arith, below))) [
          | inl here ↦
              let now = subst (λ (n : ℕ). IsCovered answer secret n) here covered in
              subst (λ (n : ℕ). get_or (parts ++ part ∷ []) n None ≡ None) (sym here)
              (at ∙ hides (below_covered answer secret start (end_after end start r) reach now))
          | inr before ↦
              get_or-append parts (part ∷ []) None place (subst (λ (n : ℕ). place < n) (sym so.marked.each) before)
              ∙ so.marked.hidden place before covered
        ];
        kept = λ place below free. elim (eq-or-lt_of_le {n = place} {m = start} (omega (arith, below))) [
          | inl here ↦
              let now = subst (λ (n : ℕ). IsCovered answer secret n → ⊥) here free in
              subst (λ (n : ℕ). get_or (parts ++ part ∷ []) n None ≡ Some (slice_index answer n)) (sym here)
              (at ∙ keeps (λ below. now (covered_below answer secret start (end_after end start r) reach below)))
          | inr before ↦
              get_or-append parts (part ∷ []) None place (subst (λ (n : ℕ). place < n) (sym so.marked.each) before)
              ∙ so.marked.kept place before free
        ];
      };
    }

-- the same of values that are known otherwise
pub goes_on_to : (answer secret text : List ℕ) (start end end' : ℕ) (parts parts' : List (Option ℕ)) (r part : Option ℕ)
    → start < length answer → GoesOn answer secret start end parts → text ≡ drop start (lower answer)
    → IsLongest (Writes secret) text r → end' ≡ end_after end start r
    → (start < end' → part ≡ None) → ((start < end' → ⊥) → part ≡ Some (slice_index answer start)) → parts' ≡ parts ++ part ∷ []
    → GoesOn answer secret (start + 1) end' parts'
goes_on_to answer secret text start end end' parts parts' r part fits so is longest ends hides keeps grown =
    let from = subst (λ (t : List ℕ). IsLongest (Writes secret) t r) is longest in
    subst (λ ps. GoesOn answer secret (start + 1) end' ps) (sym grown)
    (subst (λ n. GoesOn answer secret (start + 1) n (parts ++ part ∷ [])) (sym ends)
    (goes_on answer secret start end parts r part fits so from
    (subst (λ n. start < n → part ≡ None) ends hides)
    (subst (λ n. (start < n → ⊥) → part ≡ Some (slice_index answer start)) ends keeps)))
