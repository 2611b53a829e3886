-- Texts, whose lines end at LF.
use Rattle.std.specs.{
  Prelude.{◌≡◌, ◌⊎◌, ◌==◌, ℕ, Bool, List, [], ◌∷◌, ◌++◌, if◌then◌else◌, ◌≢◌},
  List.{onto_first, AllByRecursion},
}

abbrev pub is_line_feed : ℕ → Bool
is_line_feed byte = byte == 10

-- it holds no LF
abbrev pub HasNoLf : List ℕ → Type 0
HasNoLf bytes = AllByRecursion (λ byte. byte ≢ 10) bytes

-- the lines of a text, without their LF; a last piece without LF is a line
abbrev pub lines_of_text : List ℕ → List (List ℕ)
lines_of_text [] = []
lines_of_text (byte ∷ rest) = if byte == 10 then [] ∷ lines_of_text rest else onto_first byte (lines_of_text rest)

-- a text that is empty or ends in LF
abbrev pub IsWhole : List ℕ → Type 0
IsWhole text = (text ≡ []) ⊎ ((front : List ℕ) × (text ≡ front ++ 10 ∷ []))

-- the text made whole: with an LF added if it isn't empty and doesn't end in LF
abbrev pub whole_text : List ℕ → List ℕ
whole_text [] = []
whole_text (byte ∷ []) = if byte == 10 then byte ∷ [] else byte ∷ 10 ∷ []
whole_text (byte ∷ next ∷ rest) = byte ∷ whole_text (next ∷ rest)
