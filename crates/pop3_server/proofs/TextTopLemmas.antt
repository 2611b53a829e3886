-- The top of a text, by its octets.
use Rattle.std.{
  proofs.Common.{◌≡◌, ◌==◌, ◌<◌, ◌-◌, ◌||◌, ℕ, zero, suc, Bool, true, false, not, List, [], ◌∷◌, ◌++◌, length, IsTrue, ◌↔◌, refl, sym, ap},
  proofs.Common.{◌∙◌, arith, true≢false},
  proofs.lemmas.Bool.{or_right, Decides.{eqb_tells, nat_tests}},
  specs.List.onto_first,
}
use Rattle.mail_terms.specs.Text.{lines_of_text, HasNoLf}
use Rattle.pop3_server.specs.{ServerMachine.top_from, TextPiece.top_octets}

-- ---- its lines are the top of the text's lines

-- no more lines are needed
top_from-none : (lines : List (List ℕ)) → top_from false 0 lines ≡ []
top_from-none [] = refl
top_from-none (line ∷ lines) = refl

-- the same if the first line has begun
abbrev from_open : ℕ → List (List ℕ) → List (List ℕ)
from_open n [] = []
from_open n (line ∷ lines) = line ∷ top_from true n lines

-- a line with an octet in it isn't empty
some_octets : (k : ℕ) → (suc k == 0) ≡ false
some_octets k = grind (arith, nat_tests)

-- the lines that a text gives, by its place in its top
abbrev lines_at : Bool → Bool → ℕ → List (List ℕ) → List (List ℕ)
lines_at true true n lines = from_open n lines
lines_at true false n lines = top_from true n lines
lines_at false in_line n lines = top_from false n lines

first_octet_at : (in_head in_line : Bool) (n byte : ℕ) (lines : List (List ℕ)) → (in_head ≡ false → 0 < n)
    → onto_first byte (lines_at in_head true n lines) ≡ lines_at in_head in_line n (onto_first byte lines)
first_octet_at true true n byte [] more = refl
first_octet_at true true n byte (line ∷ lines) more = refl
first_octet_at true false n byte [] more = refl
first_octet_at true false n byte (line ∷ lines) more = ap (λ b. (byte ∷ line) ∷ top_from (not b) n lines) (sym (some_octets (length line)))
first_octet_at false in_line zero byte lines more = absurd (omega (arith, more refl))
first_octet_at false in_line (suc n) byte [] more = refl
first_octet_at false in_line (suc n) byte (line ∷ lines) more = refl

pub lines_of_top : (in_head in_line : Bool) (n : ℕ) (text : List ℕ)
    → lines_of_text (top_octets in_head in_line n text) ≡ lines_at in_head in_line n (lines_of_text text)
lines_of_top true true n [] = refl
lines_of_top true false n [] = refl
lines_of_top false in_line n [] = refl
lines_of_top true true n (byte ∷ text) =
    grind (
      arith,
      lines_of_top true false n text,
      lines_of_top true true n text,
      first_octet_at true true n byte (lines_of_text text),
    )
lines_of_top true false n (byte ∷ text) =
    grind (
      arith,
      lines_of_top false false n text,
      lines_of_top true true n text,
      first_octet_at true false n byte (lines_of_text text),
    )
lines_of_top false in_line zero (byte ∷ text) = sym (top_from-none (lines_of_text (byte ∷ text)))
lines_of_top false in_line (suc n) (byte ∷ text) =
    grind (
      arith,
      lines_of_top false false n text,
      lines_of_top false true (suc n) text,
      first_octet_at false in_line (suc n) byte (lines_of_text text),
    )

-- ---- what it takes

-- an octet that isn't LF, if more of the top is to come
one_octet : (in_head in_line : Bool) (n byte : ℕ) (rest : List ℕ) → (byte == 10) ≡ false → (in_head ≡ false → 0 < n)
    → top_octets in_head in_line n (byte ∷ rest) ≡ byte ∷ top_octets in_head true n rest
one_octet true in_line n byte rest other more = rw other refl
one_octet false in_line zero byte rest other more = absurd (omega (arith, more refl))
one_octet false in_line (suc n) byte rest other more = rw other refl

-- octets without LF
pub takes_rest : (in_head in_line : Bool) (n : ℕ) (piece rest : List ℕ) → HasNoLf piece → (in_head ≡ false → 0 < n)
    → top_octets in_head in_line n (piece ++ rest) ≡ piece ++ top_octets in_head (not (length piece == 0) || in_line) n rest
takes_rest in_head in_line n [] rest none more = refl
takes_rest in_head in_line n (byte ∷ piece) rest none more =
    let other : (byte == 10) ≡ false = grind (arith, eqb_tells byte 10, none.0) in
    let later = rw (or_right (not (length piece == 0)) true refl) at (takes_rest in_head true n piece rest none.1 more) in
    rw some_octets (one_octet in_head in_line n byte (piece ++ rest) other more ∙ ap (λ (l : List ℕ). byte ∷ l) later)

-- a line ends; it was one of the head, or came after it
pub ends_head : (in_head in_line opened : Bool) (n left : ℕ) (line rest : List ℕ) → HasNoLf line → in_head ≡ true
    → opened ≡ (not (length line == 0) || in_line) → left ≡ n
    → top_octets in_head in_line n (line ++ 10 ∷ rest) ≡ line ++ 10 ∷ top_octets opened false left rest
ends_head in_head in_line opened n left line rest none head is same =
    rw (head, same, is) (takes_rest true in_line n line (10 ∷ rest) none (λ later. absurd (true≢false later)))

pub ends_later : (in_head in_line opened : Bool) (n left : ℕ) (line rest : List ℕ) → HasNoLf line → in_head ≡ false
    → opened ≡ in_head → 0 < n → left ≡ n - 1
    → top_octets in_head in_line n (line ++ 10 ∷ rest) ≡ line ++ 10 ∷ top_octets opened false left rest
ends_later in_head in_line opened n left line rest none later is some less =
    let one : n ≡ suc left = omega arith in
    rw (is, later, one) (takes_rest false in_line (suc left) line (10 ∷ rest) none (λ _. omega arith))

-- it takes none if there are none, and none after all has come
pub top_of_none : (in_head in_line : Bool) (n : ℕ) → top_octets in_head in_line n [] ≡ []
top_of_none true in_line n = refl
top_of_none false in_line zero = refl
top_of_none false in_line (suc n) = refl

later_none : (in_line : Bool) (rest : List ℕ) → top_octets false in_line 0 rest ≡ []
later_none in_line [] = refl
later_none in_line (byte ∷ rest) = refl

pub done_takes_none : (in_head in_line : Bool) (n : ℕ) → in_head ≡ false → n ≡ 0 → (rest : List ℕ) → top_octets in_head in_line n rest ≡ []
done_takes_none in_head in_line n later none rest = rw (later, none) (later_none in_line rest)

pub not_done : (done in_head : Bool) (n : ℕ) → (IsTrue done ↔ (in_head ≡ false) × (n ≡ 0)) → done ≡ false → in_head ≡ false → 0 < n
not_done done in_head n iff more later = grind arith
