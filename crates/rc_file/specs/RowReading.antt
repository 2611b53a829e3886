-- The program's rows as values, and what it has read of a file.
use Rattle.std.specs.{
  Prelude.{◌≡◌, ◌⊎◌, ℕ, ◌+◌, Bool, true, false, List, [], ◌∷◌, ◌++◌, map, Option, Some, None, Result, Ok, Err, Vec},
  Prelude.string_bytes,
  declared.alloc.Global.Global,
}
use Rattle.rc_file.specs.{
  Answer.IsFaultMeant,
  LineRules.RcLine,
  RcMeaning.first_bad,
  declared.{fault.RcFault.{RcFault, TheVariants.{BadLine, NoMemory}}, row.{ReadRow.ReadRow, Entry.Entry}},
  FileRows.{RcRow, section_row, key_row, bad_row, added, rows_from},
}

abbrev pub entry_row : ℕ → List ℕ → Option Entry → RcRow
entry_row line name None = section_row line name
entry_row line name (Some entry) = key_row line name (string_bytes entry.key) (string_bytes entry.value)

abbrev pub row_of : ReadRow → RcRow
row_of row = entry_row row.line row.section.now row.entry

abbrev pub rows_in : List ReadRow → List RcRow
rows_in rows = map row_of rows

-- the row with this text after its value, if it is a key's
abbrev pub continued_row : RcRow → List ℕ → RcRow
continued_row (section_row line name) text = section_row line name
continued_row (key_row line section key value) text = key_row line section key (value ++ text)
continued_row (bad_row line) text = bad_row line

-- whether the row is a key
abbrev pub is_key_row : RcRow → Bool
is_key_row (section_row line name) = false
is_key_row (key_row line section key value) = true
is_key_row (bad_row line) = false

-- a line is added to the row's value; or there is no value, or memory ran out
abbrev pub AddsText : RcRow → ℕ → List ℕ → Result (Unit {0}) RcFault → RcRow → Type 0
AddsText old number text (Ok done) new = (is_key_row old ≡ true) × (new ≡ continued_row old (10 ∷ text))
AddsText old number text (Err fault) new = (fault ≡ NoMemory) ⊎ ((is_key_row old ≡ false) × (fault ≡ BadLine number))

-- the rows with this text after the value of the last
abbrev pub continued : List RcRow → List ℕ → List RcRow
continued [] text = []
continued (row ∷ []) text = continued_row row text ∷ []
continued (row ∷ next ∷ rows) text = row ∷ continued (next ∷ rows) text

-- the section of a row
abbrev pub section_in : RcRow → Option (List ℕ)
section_in (section_row line name) = Some name
section_in (key_row line section key value) = Some section
section_in (bad_row line) = None

abbrev pub last_section : List RcRow → Option (List ℕ)
last_section [] = None
last_section (row ∷ []) = section_in row
last_section (row ∷ next ∷ rows) = last_section (next ∷ rows)

-- whether the last row is a key
abbrev pub ends_in_key : List RcRow → Bool
ends_in_key [] = false
ends_in_key (row ∷ []) = is_key_row row
ends_in_key (row ∷ next ∷ rows) = ends_in_key (next ∷ rows)

-- the rows of a file, if these rows were read, and these lines, numbered from n on, still have to be read
unfoldable pub file_rows : List RcRow → ℕ → List RcLine → List RcRow
file_rows rows n lines = continued rows (added lines) ++ rows_from (last_section rows) (ends_in_key rows) n lines

-- one more line was read into the rows, or it is the first bad one, or memory ran out
abbrev pub TakesLine : List ReadRow → ℕ → RcLine → Result (Unit {0}) RcFault → List ReadRow → Type 0
TakesLine old n line (Ok done) new = (lines : List RcLine)
    → file_rows (rows_in old) n (line ∷ lines) ≡ file_rows (rows_in new) (n + 1) lines
TakesLine old n line (Err fault) new = (lines : List RcLine)
    → IsFaultMeant (first_bad (file_rows (rows_in old) n (line ∷ lines))) fault

-- the rows of the file, or its first bad line, or memory ran out
abbrev pub ReadsRows : List RcRow → Result (Vec ReadRow Global) RcFault → Type 0
ReadsRows rows (Ok read) = rows ≡ rows_in read.items
ReadsRows rows (Err fault) = IsFaultMeant (first_bad rows) fault
