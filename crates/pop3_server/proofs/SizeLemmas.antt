-- The size of a text by what its bytes add.
use Rattle.std.{
  proofs.Common.{◌≡◌, ◌==◌, ◌||◌, ℕ, ◌+◌, Bool, true, false, not, List, [], ◌∷◌, ◌++◌, length, refl, sym, ◌∙◌, ap, arith, if◌then◌else◌},
  proofs.lemmas.{List.Sums.{sum_by-cons, sum_by-append}, Bool.Decides.eqb_tells},
  specs.List.{flat_map, sum_by, onto_first},
}
use Rattle.pop3_wire.specs.Line.{ended}
use Rattle.mail_terms.specs.Text.{lines_of_text, HasNoLf}
use Rattle.pop3_server.{
  specs.{declared.size.SizeCount.SizeCount, TextPiece.is_open_after, Size.{size_of, weight, ends_open, capped, CountsText}},
  proofs.TextPieceLemmas.{open_append, open_rest},
}

-- a byte before some lines adds one octet, and an end of a line two
size_more : (at_end other_end : Bool) (byte other : ℕ) (lines : List (List ℕ))
    → length (flat_map ended (if at_end then [] ∷ (if other_end then [] ∷ lines else onto_first other lines) else
    onto_first byte (if other_end then [] ∷ lines else onto_first other lines)))
    ≡ (if at_end then 2 else 1) + length (flat_map ended (if other_end then [] ∷ lines else onto_first other lines))
size_more true other_end byte other lines = omega arith
size_more false true byte other lines = omega arith
size_more false false byte other [] = omega arith
size_more false false byte other (line ∷ lines) = omega arith

size_one : (at_end : Bool) (byte : ℕ)
    → length (flat_map ended (if at_end then [] ∷ [] else onto_first byte [])) ≡ (if at_end then 2 else 1) + (if not at_end then 2 else 0)
size_one true byte = refl
size_one false byte = refl

pub size_of-weights : (text : List ℕ) → size_of text ≡ sum_by weight text + (if ends_open text then 2 else 0)
size_of-weights [] = refl
size_of-weights (byte ∷ []) = size_one (byte == 10) byte ∙ omega (arith, sum_by-cons weight byte [])
size_of-weights (byte ∷ other ∷ rest) =
    size_more (byte == 10) (other == 10) byte other (lines_of_text rest)
    ∙ ap (λ n. weight byte + n) (size_of-weights (other ∷ rest)) ∙ omega (arith, sum_by-cons weight byte (other ∷ rest))

-- a piece without LF adds its length
weights : (piece : List ℕ) → HasNoLf piece → sum_by weight piece ≡ length piece
weights [] none = refl
weights (byte ∷ rest) none = grind (arith, eqb_tells byte 10, none.0, sum_by-cons weight byte rest, weights rest none.1)

-- a line and its end add its length and two
pub line_weights : (piece line after : List ℕ) → HasNoLf line → piece ≡ line ++ 10 ∷ after
    → sum_by weight piece ≡ length line + 2 + sum_by weight after
line_weights piece line after none is =
    ap (sum_by weight) is ∙ omega (arith, sum_by-append weight line (10 ∷ after), sum_by-cons weight 10 after, weights line none)

-- a piece was counted: what was counted before it, its lines, and the rest of it
pub CountsText-more : (count next : SizeCount) (text piece rest : List ℕ) (octets : ℕ) (in_line : Bool) → HasNoLf rest
    → CountsText count text → capped (octets + sum_by weight rest) ≡ capped (count.octets + sum_by weight piece)
    → is_open_after in_line rest ≡ is_open_after count.in_line piece
    → next.octets ≡ capped (octets + length rest) → next.in_line ≡ (not (length rest == 0) || in_line) → CountsText next (text ++ piece)
CountsText-more count next text piece rest octets in_line none h counted open_now more last = record {
  octets = omega (arith, more, h.octets, counted, weights rest none, sum_by-append weight text piece);
  in_line = last ∙ sym (open_rest in_line rest none) ∙ open_now ∙ ap (λ b. is_open_after b piece) h.in_line
      ∙ sym (open_append false text piece);
}

-- the size of what was counted, if the last line is open and if it isn't
pub size_open : (count : SizeCount) (text : List ℕ) → CountsText count text
    → (count.in_line ≡ true → capped (count.octets + 2) ≡ capped (size_of text))
    × (count.in_line ≡ false → count.octets ≡ capped (size_of text))
size_open count text h =
    let all = rw (← h.in_line) at (size_of-weights text) in
    (λ more. omega (arith, h.octets, rw more at all), λ closed. omega (arith, h.octets, rw closed at all))
