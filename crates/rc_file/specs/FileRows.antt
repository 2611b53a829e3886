-- The rows of an rc file: its section lines, its keys with their values, and the lines that are bad in their place.
use Rattle.std.specs.{
  Prelude.{ℕ, ◌+◌, Bool, true, false, List, [], ◌∷◌, ◌++◌, map, Option, Some, None, is_some},
  Char.to_ascii_lowercase,
}
use Rattle.rc_file.specs.LineRules.{RcLine, skipped, more, section, key, bad, file_lines, judge}

-- a section line: its line number and name. A key: its line number, its section, the key in ASCII lower case and its
-- value. A bad line: its line number
pub data RcRow : Type 0 where
  section_row : ℕ → List ℕ → RcRow
  key_row : ℕ → List ℕ → List ℕ → List ℕ → RcRow
  bad_row : ℕ → RcRow

-- what these lines add to the value of the key before them: each line that continues it, after an LF, up to
-- the next section, key or bad line. Skipped lines don't end a value
abbrev pub added : List RcLine → List ℕ
added [] = []
added (skipped ∷ lines) = added lines
added (more text ∷ lines) = 10 ∷ (text ++ added lines)
added (section name ∷ lines) = []
added (key name value ∷ lines) = []
added (bad ∷ lines) = []

-- a line that continues a value is bad if there is no key that it could belong to
abbrev pub more_rows : Bool → ℕ → List RcRow
more_rows true n = []
more_rows false n = bad_row n ∷ []

-- a key line is bad if no section line comes before it
abbrev pub key_rows : Option (List ℕ) → ℕ → List ℕ → List ℕ → List RcRow
key_rows (Some name) n word value = key_row n name (map to_ascii_lowercase word) value ∷ []
key_rows None n word value = bad_row n ∷ []

-- the rows of lines that are numbered from n on, in the section before them, if there is one; `keyed` says
-- whether a key has come since the last section line
abbrev pub rows_from : Option (List ℕ) → Bool → ℕ → List RcLine → List RcRow
rows_from within keyed n [] = []
rows_from within keyed n (skipped ∷ lines) = rows_from within keyed (n + 1) lines
rows_from within keyed n (more text ∷ lines) = more_rows keyed n ++ rows_from within keyed (n + 1) lines
rows_from within keyed n (section name ∷ lines) = section_row n name ∷ rows_from (Some name) false (n + 1) lines
rows_from within keyed n (key word value ∷ lines) =
    key_rows within n word (value ++ added lines) ++ rows_from within (is_some within) (n + 1) lines
rows_from within keyed n (bad ∷ lines) = bad_row n ∷ rows_from within keyed (n + 1) lines

-- the rows of a file, whose lines are numbered from 1
abbrev pub rows_of : List ℕ → List RcRow
rows_of bytes = rows_from None false 1 (map judge (file_lines bytes))
