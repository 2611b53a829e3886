-- The body of a text, by several parts of the text.
use Rattle.std.proofs.Common.{◌≡◌, ℕ, Bool, true, false, List, [], ◌++◌, Option, Some, None, refl, ap, ◌∙◌, append_assoc}
use Rattle.pop3_wire.specs.Stuffed.{stuffed_lines}
use Rattle.pop3_server.{
  specs.{declared.{text_part.TextBody.TextBody, text_top.Top.Top}, ServerMachine.text_body, TextBody.{belonging, ended_body, still}},
  specs.TextPiece.{is_open_after, sent_end, sent_piece, top_begun, top_octets},
  proofs.{TextPieceLemmas.{open_append, sent_append, sent_whole}, TextTopLemmas.{top_of_none, lines_of_top}},
}

-- if no octets come, none belong to it
pub none_belongs : (top : Option Top) → belonging top [] ≡ []
none_belongs None = refl
none_belongs (Some top) = top_of_none top.in_head top.in_line top.left

-- if nothing more belongs to it, only its end is to come
pub still_none : (body : TextBody) (rest : List ℕ) → belonging body.top rest ≡ [] → still body rest ≡ sent_end body.stuffer.in_line
still_none body rest none = ap (ended_body body.stuffer.in_line) none

-- some of what follows came
pub still_on : (before after : TextBody) (piece octets : List ℕ)
    → ((rest : List ℕ) → belonging before.top (piece ++ rest) ≡ octets ++ belonging after.top rest)
    → after.stuffer.in_line ≡ is_open_after before.stuffer.in_line octets
    → (rest : List ℕ) → still before (piece ++ rest) ≡ sent_piece before.stuffer.in_line octets ++ still after rest
still_on before after piece octets belong opened rest = rw (belong rest, opened, sent_append, open_append, append_assoc)

-- the whole body, if nothing has come yet
pub whole_of_all : (in_line : Bool) (text : List ℕ) → in_line ≡ false → ended_body in_line (belonging None text) ≡ text_body None text
whole_of_all in_line text none = rw none (sent_whole text)

pub whole_of_top : (in_line : Bool) (top : Top) (count : ℕ) (text : List ℕ) → in_line ≡ false → top ≡ top_begun count
    → ended_body in_line (belonging (Some top) text) ≡ text_body (Some count) text
whole_of_top in_line top count text none begun = rw (none, begun) (sent_whole (top_octets true false count text)
    ∙ ap stuffed_lines (lines_of_top true false count text))
