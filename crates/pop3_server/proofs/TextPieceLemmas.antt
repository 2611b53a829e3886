-- Pieces of a text, split at their first LF.
use Rattle.std.{
  proofs.Common.{◌≡◌, ◌==◌, ◌≤◌, ◌||◌, ℕ, Bool, true, false, not, List, [], ◌∷◌, ◌++◌, length, refl, append_assoc, arith, if◌then◌else◌},
  proofs.lemmas.Bool.Decides.{eqb_tells, nat_tests},
  specs.List.{flat_map, onto_first},
}
use Rattle.mail_terms.specs.Text.{lines_of_text, HasNoLf}
use Rattle.pop3_wire.specs.{Line.{crlf, ended}, Stuffed.{sent_line, stuffed_lines}}
use Rattle.pop3_server.specs.TextPiece.{is_open_after, sent_end, sent_piece, stuffing}

-- two pieces in a row
pub open_append : (in_line : Bool) (one two : List ℕ) → is_open_after in_line (one ++ two) ≡ is_open_after (is_open_after in_line one) two
open_append in_line [] two = refl
open_append in_line (byte ∷ one) two = open_append (not (byte == 10)) one two

-- octets without LF behind an open line
on_rest : (rest : List ℕ) → HasNoLf rest → (is_open_after true rest ≡ true) × (sent_piece true rest ≡ rest)
on_rest [] none = (refl, refl)
on_rest (byte ∷ rest) none = grind (arith, eqb_tells byte 10, none.0, on_rest rest none.1)

-- after some octets without LF a line is open
pub open_rest : (in_line : Bool) (rest : List ℕ) → HasNoLf rest → is_open_after in_line rest ≡ (not (length rest == 0) || in_line)
open_rest in_line [] none = refl
open_rest in_line (byte ∷ rest) none = grind (arith, nat_tests, on_rest (byte ∷ rest) none)

-- ---- what pieces add to a body

-- two pieces in a row
pub sent_append : (in_line : Bool) (one two : List ℕ)
    → sent_piece in_line (one ++ two) ≡ sent_piece in_line one ++ sent_piece (is_open_after in_line one) two
sent_append in_line [] two = refl
sent_append in_line (byte ∷ one) two = rw (sent_append (not (byte == 10)) one two, append_assoc)

-- octets without LF
pub sent_rest : (in_line : Bool) (rest : List ℕ) → HasNoLf rest → sent_piece in_line rest ≡ stuffing in_line rest ++ rest
sent_rest in_line [] none = refl
sent_rest in_line (byte ∷ rest) none = grind (arith, eqb_tells byte 10, none.0, on_rest rest none.1, append_assoc {A = ℕ})

-- a line and its end
pub sent_line_more : (in_line : Bool) (line after : List ℕ) → HasNoLf line
    → sent_piece in_line (line ++ 10 ∷ after) ≡ ((stuffing in_line line ++ line) ++ crlf) ++ sent_piece false after
sent_line_more in_line line after none = rw (sent_append, sent_rest in_line line none, append_assoc (stuffing in_line line ++ line))

-- stuffing adds at most one octet, and none to an empty line
pub stuffing_length : (in_line : Bool) (line : List ℕ) → (length (stuffing in_line line) ≤ 1)
    × (length (stuffing in_line line) ≤ length line)
stuffing_length in_line [] = (omega arith, omega arith)
stuffing_length true (byte ∷ line) = (omega arith, omega arith)
stuffing_length false (byte ∷ line) = grind arith

-- ---- the body of a whole text

-- the octets of lines, if the first has begun
abbrev go_on : List (List ℕ) → List ℕ
go_on [] = crlf
go_on (line ∷ lines) = ended line ++ flat_map sent_line lines

go_on_first : (byte : ℕ) (lines : List (List ℕ)) → go_on (onto_first byte lines) ≡ byte ∷ go_on lines
go_on_first byte [] = refl
go_on_first byte (line ∷ lines) = refl

sent_first : (byte : ℕ) (lines : List (List ℕ))
    → flat_map sent_line (onto_first byte lines) ≡ stuffing false (byte ∷ []) ++ byte ∷ go_on lines
sent_first byte [] = grind arith
sent_first byte (line ∷ lines) = grind arith

-- what is to come, given whether a line is open
abbrev lines_left : Bool → List (List ℕ) → List ℕ
lines_left true lines = go_on lines
lines_left false lines = flat_map sent_line lines

closed : (in_line : Bool) (text : List ℕ) → sent_piece in_line text ++ (if is_open_after in_line text then crlf else [])
    ≡ lines_left in_line (lines_of_text text)
closed true [] = refl
closed false [] = refl
closed true (byte ∷ text) = grind (arith, closed false text, closed true text, go_on_first byte (lines_of_text text))
closed false (byte ∷ text) =
    rw append_assoc (grind (
      arith,
      closed false text,
      closed true text,
      sent_first byte (lines_of_text text),
      append_assoc {A = ℕ},
    ))

-- all pieces of a text and the end of its body
pub sent_whole : (text : List ℕ) → sent_piece false text ++ sent_end (is_open_after false text) ≡ stuffed_lines (lines_of_text text)
sent_whole text = rw (← closed false text, append_assoc)
