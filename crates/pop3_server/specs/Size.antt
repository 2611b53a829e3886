-- The size of a text: each line's end counts as two octets.
use Rattle.std.specs.Prelude.{◌≡◌, ◌==◌, ℕ, Bool, false, ◌-◌, ◌^◌, min, List, length, if◌then◌else◌, flat_map, sum_by}
use Rattle.pop3_wire.specs.Line.{ended}
use Rattle.mail_terms.specs.Text.{lines_of_text}
use Rattle.pop3_server.specs.{TextPiece.is_open_after, declared.size.SizeCount.SizeCount}

-- the octets of a text's lines, each with the CR LF that ends it on the wire
abbrev pub size_of : List ℕ → ℕ
size_of text = length (flat_map ended (lines_of_text text))

-- a number, or the greatest of 64 bits if it is above that
abbrev pub capped : ℕ → ℕ
capped number = min number (2 ^ 64 - 1)

-- what a byte of the text adds
abbrev pub weight : ℕ → ℕ
weight byte = if byte == 10 then 2 else 1

-- the last line has no end yet
abbrev pub ends_open : List ℕ → Bool
ends_open text = is_open_after false text

-- these bytes were counted: what they add, and whether their last line has no end yet
pub record CountsText (count : SizeCount) (bytes : List ℕ) : Type 0 where
  pub octets : count.octets ≡ capped (sum_by weight bytes)
  pub in_line : count.in_line ≡ ends_open bytes
