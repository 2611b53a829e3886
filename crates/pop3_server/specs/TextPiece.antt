-- Pieces of a text.
use Rattle.std.specs.Prelude.{◌==◌, ℕ, zero, suc, Bool, true, false, not, List, [], ◌∷◌, ◌++◌, if◌then◌else◌}
use Rattle.pop3_wire.specs.{Line.{crlf, ended}, Body.dot}
use Rattle.pop3_server.specs.declared.text_top.Top.{Top}

-- whether a line is open after a piece, given whether one was open before it
abbrev pub is_open_after : Bool → List ℕ → Bool
is_open_after in_line [] = in_line
is_open_after in_line (byte ∷ rest) = is_open_after (not (byte == 10)) rest

-- one more full stop, if a line begins with one
abbrev pub stuffing : Bool → List ℕ → List ℕ
stuffing in_line [] = []
stuffing in_line (byte ∷ rest) = if in_line then [] else if byte == 46 then 46 ∷ [] else []

-- what a piece of a text adds to its body (RFC 1939, section 3), given whether a line was open before it
abbrev pub sent_piece : Bool → List ℕ → List ℕ
sent_piece in_line [] = []
sent_piece in_line (byte ∷ rest) =
    (if byte == 10 then crlf else stuffing in_line (byte ∷ []) ++ byte ∷ []) ++ sent_piece (not (byte == 10)) rest

-- what ends a body, given whether a line is open
abbrev pub sent_end : Bool → List ℕ
sent_end in_line = (if in_line then crlf else []) ++ ended dot

-- those of the next octets of a text that belong to its top, given whether the first empty line hasn't come
-- yet, whether a line is open, and how many lines are to come after the empty one (RFC 1939, section 7)
abbrev pub top_octets : Bool → Bool → ℕ → List ℕ → List ℕ
top_octets in_head in_line n [] = []
top_octets true in_line n (byte ∷ rest) =
    byte ∷ (if byte == 10 then top_octets in_line false n rest else top_octets true true n rest)
top_octets false in_line zero (byte ∷ rest) = []
top_octets false in_line (suc n) (byte ∷ rest) =
    byte ∷ (if byte == 10 then top_octets false false n rest else top_octets false true (suc n) rest)

-- a top of which nothing has come yet
abbrev pub top_begun : ℕ → Top
top_begun n = record { in_head = true; in_line = false; left = n }

-- those of the next octets that belong to a top
abbrev pub taken_of_top : Top → List ℕ → List ℕ
taken_of_top top rest = top_octets top.in_head top.in_line top.left rest
