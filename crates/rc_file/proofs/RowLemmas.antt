-- Reading a file line by line gives its rows.
use Rattle.std.{
  proofs.Common.{◌≡◌, ℕ, ◌+◌, suc, Result, Ok, Err, List, [], ◌∷◌, ◌++◌, length, take, get_or, set, map, true, false, Option, Some, None},
  proofs.Common.{ap, ◌∙◌, refl, inl, inr, arith},
  proofs.lemmas.{Grind.common_steps, Bool.false≢true, List.{drop_all, take-set, append-nil, append_assoc, map-append, nil_from_length}},
  proofs.Math.Seq.split_at,
  specs.Char.to_ascii_lowercase,
}
use Rattle.rc_file.specs.{
  LineRules.{RcLine, more, key},
  FileRows.{RcRow, section_row, key_row, bad_row},
  RcMeaning.first_bad,
  declared.{fault.RcFault.{RcFault, TheVariants.BadLine}, row.{ReadRow.ReadRow, Entry.Entry}},
  RowReading.{row_of, entry_row, rows_in, continued_row, continued, section_in, last_section, is_key_row, ends_in_key, file_rows, AddsText},
  RowReading.TakesLine,
}

-- the last of some rows

pub continued-last : (rows : List RcRow) (row : RcRow) (text : List ℕ)
    → continued (rows ++ (row ∷ [])) text ≡ rows ++ (continued_row row text ∷ [])
continued-last [] row text = refl
continued-last (first ∷ []) row text = refl
continued-last (first ∷ next ∷ rows) row text = ap (λ (l : List RcRow). first ∷ l) (continued-last (next ∷ rows) row text)

pub last_section-last : (rows : List RcRow) (row : RcRow) → last_section (rows ++ (row ∷ [])) ≡ section_in row
last_section-last [] row = refl
last_section-last (first ∷ []) row = refl
last_section-last (first ∷ next ∷ rows) row = last_section-last (next ∷ rows) row

pub ends_in_key-last : (rows : List RcRow) (row : RcRow) → ends_in_key (rows ++ (row ∷ [])) ≡ is_key_row row
ends_in_key-last [] row = refl
ends_in_key-last (first ∷ []) row = refl
ends_in_key-last (first ∷ next ∷ rows) row = ends_in_key-last (next ∷ rows) row

continued_row-nil : (row : RcRow) → continued_row row [] ≡ row
continued_row-nil (section_row n name) = refl
continued_row-nil (key_row n name word value) = ap (λ (v : List ℕ). key_row n name word v) (append-nil value)
continued_row-nil (bad_row n) = refl

pub continued-nil : (rows : List RcRow) → continued rows [] ≡ rows
continued-nil [] = refl
continued-nil (row ∷ []) = ap (λ (r : RcRow). r ∷ []) (continued_row-nil row)
continued-nil (row ∷ next ∷ rows) = ap (λ (l : List RcRow). row ∷ l) (continued-nil (next ∷ rows))

-- each kind of line

pub file_rows-key : (rows : List RcRow) (n : ℕ) (name word value : List ℕ) (lines : List RcLine) → last_section rows ≡ Some name
    → file_rows rows n (key word value ∷ lines)
    ≡ file_rows (rows ++ (key_row n name (map to_ascii_lowercase word) value ∷ [])) (n + 1) lines
unfolding file_rows
file_rows-key rows n name word value lines within =
    simp (within, continued-nil, continued-last, last_section-last, ends_in_key-last, append_assoc)

pub file_rows-more : (rows : List RcRow) (row : RcRow) (n : ℕ) (text : List ℕ) (lines : List RcLine) → is_key_row row ≡ true
    → file_rows (rows ++ (row ∷ [])) n (more text ∷ lines) ≡ file_rows (rows ++ (continued_row row (10 ∷ text) ∷ [])) (n + 1) lines
unfolding file_rows
file_rows-more rows (key_row m name word value) n text lines is_key =
    simp (continued-last, last_section-last, ends_in_key-last, append_assoc)
file_rows-more rows other n text lines is_key = absurd (false≢true is_key)

-- rows that were read are never bad
good_row : (n : ℕ) (name : List ℕ) (entry : Option Entry) (text : List ℕ) (others : List RcRow)
    → first_bad (continued_row (entry_row n name entry) text ∷ others) ≡ first_bad others
good_row n name None text others = refl
good_row n name (Some entry) text others = refl

pub first_bad-read : (read : List ReadRow) (text : List ℕ) (more_rows : List RcRow)
    → first_bad (continued (rows_in read) text ++ more_rows) ≡ first_bad more_rows
first_bad-read [] text others = refl
first_bad-read (row ∷ []) text others = good_row row.line row.section.now row.entry text others
first_bad-read (row ∷ next ∷ read) text others =
    rw (← continued_row-nil (row_of row))
    (good_row row.line row.section.now row.entry [] (continued (rows_in (next ∷ read)) text ++ others))
    ∙ first_bad-read (next ∷ read) text others

pub first_bad-more : (read : List ReadRow) (n : ℕ) (text : List ℕ) (lines : List RcLine)
    → ends_in_key (rows_in read) ≡ false → first_bad (file_rows (rows_in read) n (more text ∷ lines)) ≡ Some (BadLine n)
unfolding file_rows
first_bad-more read n text lines none = first_bad-read read _ _ ∙ rw none

-- the last of some rows, by its place
split_last : (read : List ReadRow) (k : ℕ) (row : ReadRow) → row ≡ get_or read k row → suc k ≡ length read
    → read ≡ take k read ++ (row ∷ [])
split_last read k row same at_end = grind (arith, common_steps, split_at read k row (omega arith), drop_all (suc k) read (omega arith))

set_last : (read : List ReadRow) (k : ℕ) (row : ReadRow) → suc k ≡ length read → set read k row ≡ take k read ++ (row ∷ [])
set_last read k row at_end = split_last (set read k row) k row (grind (arith, common_steps)) (grind (arith, common_steps)) ∙ simp take-set

pub rows_in-push : (old new : List ReadRow) (row : ReadRow) → new ≡ old ++ (row ∷ []) → rows_in new ≡ rows_in old ++ (row_of row ∷ [])
rows_in-push old new row e = ap rows_in e ∙ map-append row_of old (row ∷ [])

section_in-row_of : (n : ℕ) (name : List ℕ) (entry : Option Entry) → section_in (entry_row n name entry) ≡ Some name
section_in-row_of n name None = refl
section_in-row_of n name (Some entry) = refl

pub last_section-read : (read : List ReadRow) (k : ℕ) (row : ReadRow) → row ≡ get_or read k row → suc k ≡ length read
    → last_section (rows_in read) ≡ Some row.section.now
last_section-read read k row same at_end =
    rw (rows_in-push (take k read) read row (split_last read k row same at_end), last_section-last (rows_in (take k read)) (row_of row))
    (section_in-row_of row.line row.section.now row.entry)

-- a line continues the last row's value
pub more_taken : (read : List ReadRow) (k : ℕ) (row new : ReadRow) (n : ℕ) (text : List ℕ) (result : Result (Unit {0}) RcFault)
    → row ≡ get_or read k row → suc k ≡ length read → AddsText (row_of row) n text result (row_of new)
    → TakesLine read n (more text) result (set read k new)
more_taken read k row new n text (Ok done) same at_end h = λ lines. rw (
  rows_in-push (take k read) (set read k new) new (set_last read k new at_end),
  rows_in-push (take k read) read row (split_last read k row same at_end),
  h.1,
) (file_rows-more (rows_in (take k read)) (row_of row) n text lines h.0)
more_taken read k row new n text (Err fault) same at_end (inl full) = λ lines. inl full
more_taken read k row new n text (Err fault) same at_end (inr h) = λ lines. inr (rw h.1 (first_bad-more read n text lines
    (rw (rows_in-push (take k read) read row (split_last read k row same at_end))
    (ends_in_key-last (rows_in (take k read)) (row_of row) ∙ h.0))))

pub ruleset one_more = (
  continued-nil,
  continued-last,
  last_section-last,
  ends_in_key-last,
  append-nil,
  append_assoc,
  map-append,
  first_bad-read,
  nil_from_length,
)
