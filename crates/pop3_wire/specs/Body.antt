-- The body of a multi-line reply, and the text that it carries (RFC 1939, section 3).
use Rattle.std.specs.{Prelude.{◌≡◌, ◌≢◌, ◌==◌, ℕ, List, [], ◌∷◌, ◌++◌, if◌then◌else◌}, List.{flat_map, AllByRecursion}}
use Rattle.pop3_wire.specs.Line.{IsLine, ended}

-- the line that ends a body: a full stop alone
abbrev pub dot : List ℕ
dot = 46 ∷ []

-- a line of a body, as it is sent: any line but the one that ends it
abbrev pub IsContent : List ℕ → Type 0
IsContent line = IsLine line × (line ≢ dot)

-- a line without its first full stop, if it begins with one
abbrev pub unstuffed : List ℕ → List ℕ
unstuffed [] = []
unstuffed (byte ∷ rest) = if byte == 46 then rest else byte ∷ rest

-- the line of the text for a line of the body; a text's lines end at LF
abbrev pub lf_line : List ℕ → List ℕ
lf_line line = unstuffed line ++ 10 ∷ []

-- the body of these lines, end mark included
abbrev pub body_of : List (List ℕ) → List ℕ
body_of lines = flat_map ended lines ++ ended dot

-- the text of these lines
abbrev pub text_of : List (List ℕ) → List ℕ
text_of lines = flat_map lf_line lines

-- these bytes are a body, and this is its text
pub record Body (body text : List ℕ) : Type 0 where
  pub lines : List (List ℕ)
  pub content : AllByRecursion IsContent lines
  pub whole : body ≡ body_of lines
  pub read : text ≡ text_of lines

-- no prefix of the bytes is a body
abbrev pub HasNoBody : List ℕ → Type 0
HasNoBody bytes = (body text rest : List ℕ) → Body body text → bytes ≡ body ++ rest → ⊥
