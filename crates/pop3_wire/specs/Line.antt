-- Lines of the protocol: a line ends at the pair CR LF and nowhere else (RFC 1939, section 3).
use Rattle.std.specs.{Prelude.{◌≡◌, ◌==◌, ℕ, Bool, not, List, [], ◌∷◌, ◌++◌, IsTrue}, List.list_all}

-- CR LF
abbrev pub crlf : List ℕ
crlf = 13 ∷ 10 ∷ []

-- it doesn't hold the pair CR LF; it may hold a lone CR or a lone LF
abbrev pub IsLine : List ℕ → Type 0
IsLine line = (front rest : List ℕ) → line ≡ front ++ (crlf ++ rest) → ⊥

-- a line with the CR LF that ends it
abbrev pub ended : List ℕ → List ℕ
ended line = line ++ crlf

-- bytes begin with at most one ended line
abbrev pub OneLine : Type 0
OneLine = (line other rest more : List ℕ) → IsLine line → IsLine other → ended line ++ rest ≡ ended other ++ more
    → (line ≡ other) × (rest ≡ more)

abbrev pub is_no_lf : ℕ → Bool
is_no_lf byte = not (byte == 10)

-- it holds no LF, so it is a line; this is a test, which can be computed for known words, while `HasNoLf`
-- speaks of each byte
abbrev pub HoldsNoLf : List ℕ → Type 0
HoldsNoLf bytes = IsTrue (list_all is_no_lf bytes)
