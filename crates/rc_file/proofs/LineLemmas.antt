-- Where a line may be split: next to a blank or a sign, which are ASCII.
use Rattle.std.{
  proofs.Common.{IsUtf8, IsCharBoundary, ◌≡◌, ℕ, ◌+◌, ◌-◌, ◌<◌, ◌≤◌, List, length, true, false, get_or, arith, reverse, subst, ap, ◌∙◌},
  proofs.Common.{refl, inl, inr, sym, Some, position},
  proofs.lemmas.Bool.{cases_lt, both_ways},
  proofs.lemmas.List.{get_or_past, get_or-reverse, get_or-take, Quantifiers.position-Some},
  proofs.lemmas.List.Sums.{prefix_len-le-length, suffix_len-le-length, prefix_len_passes},
  proofs.lemmas.Str.{IsCharBoundary-before_ascii, IsCharBoundary-after_ascii, IsCharBoundary-end, IsUtf8-from_is_utf8, is_utf8-from_IsUtf8},
  specs.List.{prefix_len, suffix_len},
}
use Rattle.rc_file.specs.LineRules.{is_blank, is_sign, before_blanks}

blank_ascii : (byte : ℕ) → is_blank byte ≡ true → byte < 128
blank_ascii byte h = grind (arith, h)

sign_ascii : (byte : ℕ) → is_sign byte ≡ true → byte < 128
sign_ascii byte h = grind (arith, h)

-- a text may be split after the blanks in front
pub front_boundary : (bs : List ℕ) → IsUtf8 bs → 0 < prefix_len is_blank bs → IsCharBoundary bs (prefix_len is_blank bs)
front_boundary bs utf8 some =
    let place : prefix_len is_blank bs - 1 + 1 ≡ prefix_len is_blank bs = omega arith in
    rw place at (IsCharBoundary-after_ascii bs (prefix_len is_blank bs - 1) utf8 (omega (arith, prefix_len-le-length is_blank bs))
    (blank_ascii _ (prefix_len_passes is_blank bs (prefix_len is_blank bs - 1) 0 (omega arith))))

-- one of the blanks at the end
end_blank : (bs : List ℕ) (place : ℕ) → length bs - suffix_len is_blank bs ≤ place → place < length bs → is_blank (get_or bs place 0) ≡ true
end_blank bs place past inside =
    let back : length bs - 1 - (length bs - 1 - place) ≡ place = omega arith in
    rw back at (rw (get_or-reverse bs (length bs - 1 - place) 0 (omega arith)) at
    (prefix_len_passes is_blank (reverse bs) (length bs - 1 - place) 0 (omega arith)))

-- and before the blanks at the end
pub end_boundary : (bs : List ℕ) → IsCharBoundary bs (length bs - suffix_len is_blank bs)
end_boundary bs = elim (cases_lt 0 (suffix_len is_blank bs)) [
  | inl some ↦
      let place : length bs - suffix_len is_blank bs < length bs = omega (arith, suffix_len-le-length is_blank bs) in
      IsCharBoundary-before_ascii bs (length bs - suffix_len is_blank bs) place
      (blank_ascii _ (end_blank bs (length bs - suffix_len is_blank bs) (omega arith) place))
  | inr none ↦ subst (λ (n : ℕ). IsCharBoundary bs n) (omega (arith, none)) (IsCharBoundary-end bs)
]

-- a text that doesn't begin with a blank begins with the same byte without the blanks at its end
before_blanks-first : (bs : List ℕ) → 0 < length bs → is_blank (get_or bs 0 0) ≡ false → get_or (before_blanks bs) 0 0 ≡ get_or bs 0 0
before_blanks-first bs some first = elim (cases_lt 0 (length bs - suffix_len is_blank bs)) [
  | inl front ↦ get_or-take (length bs - suffix_len is_blank bs) bs 0 0 front
  | inr none ↦ absurd (both_ways _ first (end_blank bs 0 none some))
]

-- a line that begins with '[' still does without the blanks at its end
pub begins_after_blanks : (line cut : List ℕ) → cut ≡ before_blanks line → get_or line 0 0 ≡ 91 → get_or cut 0 0 ≡ 91
begins_after_blanks line cut same first =
    let solid : is_blank (get_or line 0 0) ≡ false = rw first refl in
    let some : 0 < length line = grind (arith, get_or_past line 0 0) in
    ap (λ (l : List ℕ). get_or l 0 0) same ∙ before_blanks-first line some solid ∙ first

-- a text may be split before a sign and after it
pub before_sign : (bs : List ℕ) (place : ℕ) → Some place ≡ position is_sign bs → IsCharBoundary bs place
before_sign bs place found = let at = position-Some is_sign bs place 0 (sym found)
    in IsCharBoundary-before_ascii bs place at.0 (sign_ascii _ at.1)

pub after_sign : (bs : List ℕ) (place : ℕ) → IsUtf8 bs → Some place ≡ position is_sign bs → IsCharBoundary bs (place + 1)
after_sign bs place utf8 found = let at = position-Some is_sign bs place 0 (sym found)
    in IsCharBoundary-after_ascii bs place utf8 at.0 (sign_ascii _ at.1)

pub ruleset texts = (IsUtf8-from_is_utf8, is_utf8-from_IsUtf8, begins_after_blanks)
