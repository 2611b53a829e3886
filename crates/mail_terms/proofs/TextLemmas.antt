-- Texts split into lines.
use Rattle.std.{
  proofs.Common.{◌≡◌, inl, inr, ℕ, zero, suc, ◌+◌, ◌<◌, List, [], ◌∷◌, Option, Some, None, length, take, drop, refl, arith, sym, unwrap_or},
  proofs.lemmas.{Bool.{false_from_ne_true, Decides.eqb_tells}, List.Sums.position_or_len_is},
  specs.List.position_or_len,
}
use Rattle.memchr.specs.Find.{IsFirstByte, is_byte}
use Rattle.mail_terms.specs.Text.{is_line_feed, lines_of_text}

-- the end of the first line: where the first LF was found, or the text's end
pub end_found : (text : List ℕ) (found : Option ℕ) → IsFirstByte (is_byte 10) text found
    → unwrap_or found (length text) ≡ position_or_len is_line_feed text
end_found text None none =
    sym (position_or_len_is is_line_feed text (length text) 0 (omega arith)
    (λ k low. false_from_ne_true _ (none k (omega arith) low)) (λ low. absurd (omega (arith, low))))
end_found text (Some n) first =
    sym (position_or_len_is is_line_feed text n 0 (omega (arith, first.0.high))
    (λ k low. false_from_ne_true _ (first.0.before k (omega arith) low)) (λ low. first.1))

-- a text without LF is one line
pub one_text_line : (text : List ℕ) → 0 < length text → position_or_len is_line_feed text ≡ length text → lines_of_text text ≡ text ∷ []
one_text_line [] some h = absurd (omega arith)
one_text_line (byte ∷ []) some h = elim (eqb_tells byte 10) [
  | inl p ↦ absurd (let e = rw p.0 at h in omega arith)
  | inr p ↦ rw p.0 refl
]
one_text_line (byte ∷ next ∷ rest) some h = elim (eqb_tells byte 10) [
  | inl p ↦ absurd (let e = rw p.0 at h in omega arith)
  | inr p ↦ let e = rw p.0 at h in rw (p.0, one_text_line (next ∷ rest) (omega arith) (omega arith)) refl
]

-- otherwise its first line ends at the first LF
pub first_text_line : (text : List ℕ) (n : ℕ) → n ≡ position_or_len is_line_feed text → n < length text
    → lines_of_text text ≡ take n text ∷ lines_of_text (drop (n + 1) text)
first_text_line [] n h some = absurd (omega arith)
first_text_line (byte ∷ rest) zero h some = elim (eqb_tells byte 10) [
  | inl p ↦ rw p.0 refl
  | inr p ↦ absurd (let e = rw p.0 at h in omega arith)
]
first_text_line (byte ∷ rest) (suc n) h some = elim (eqb_tells byte 10) [
  | inl p ↦ absurd (let e = rw p.0 at h in omega arith)
  | inr p ↦
      let e = rw p.0 at h in
      let step : suc n + 1 ≡ suc (n + 1) = omega arith in
      rw (p.0, step, first_text_line rest n (omega arith) (omega arith)) refl
]
