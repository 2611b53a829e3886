-- The body of a text, as a writer sends it (RFC 1939, section 3).
use Rattle.std.specs.Prelude.{◌≡◌, ◌==◌, ℕ, List, [], ◌∷◌, ◌++◌, if◌then◌else◌, flat_map}
use Rattle.mail_terms.specs.Text.{lines_of_text, whole_text}
use Rattle.pop3_wire.specs.{Line.ended, Body.{dot, Body}}

-- a line with one more full stop in front, if it begins with one
abbrev pub stuffed : List ℕ → List ℕ
stuffed [] = []
stuffed (byte ∷ rest) = if byte == 46 then 46 ∷ byte ∷ rest else byte ∷ rest

abbrev pub sent_line : List ℕ → List ℕ
sent_line line = ended (stuffed line)

-- the body of these lines of a text, end mark included
abbrev pub stuffed_lines : List (List ℕ) → List ℕ
stuffed_lines lines = flat_map sent_line lines ++ ended dot

-- what a writer sends is a body of the text made whole
abbrev pub StuffedIsBody : Type 0
StuffedIsBody = (text : List ℕ) → Body (stuffed_lines (lines_of_text text)) (whole_text text)

-- whatever follows what a writer sends, a reader finds exactly that body, and the text made whole
abbrev pub StuffedIsRead : Type 0
StuffedIsRead = (text more body read rest : List ℕ) → Body body read
    → stuffed_lines (lines_of_text text) ++ more ≡ body ++ rest
    → (body ≡ stuffed_lines (lines_of_text text)) × (read ≡ whole_text text) × (rest ≡ more)

-- no body begins another: bytes begin with at most one body
abbrev pub OneBody : Type 0
OneBody = (body other text read x y : List ℕ) → Body body text → Body other read → body ++ x ≡ other ++ y
    → (body ≡ other) × (text ≡ read) × (x ≡ y)
