-- The place in the body of a text that comes in parts.
use Rattle.std.specs.Prelude.{ℕ, Bool, List, ◌++◌, Option, Some, None}
use Rattle.pop3_server.specs.{
  declared.{text_part.TextBody.TextBody, text_top.Top.Top},
  TextPiece.{is_open_after, sent_end, sent_piece, taken_of_top},
}

-- those of the next octets of a text that belong to its body, or to that of its top
abbrev pub belonging : Option Top → List ℕ → List ℕ
belonging None rest = rest
belonging (Some top) rest = taken_of_top top rest

-- what these octets of a text add to its body, and the body's end, given whether a line is open before them
abbrev pub ended_body : Bool → List ℕ → List ℕ
ended_body in_line octets = sent_piece in_line octets ++ sent_end (is_open_after in_line octets)

-- the rest of a body, if this is all that follows in its text
abbrev pub still : TextBody → List ℕ → List ℕ
still body rest = ended_body body.stuffer.in_line (belonging body.top rest)
