-- The meaning of a file, from what its reader finds; the search for what has no effect, and that no warning depends on a value.
use Rattle.std.{
  proofs.Common.{Bool, append-nil, ◌≡◌, ℕ, ◌≤◌, List, [], ◌∷◌, ◌++◌, length, map, None, Ok, refl, ◌∙◌, le-ltb, BuildHasherDefault, arith},
  proofs.Common.{FoldHasher, ◌+◌, ◌<◌, drop, get_or, add-one, true, false, cond, ◌&&◌, ◌||◌, ap, drop-cons, append_assoc, bytes_eq},
  specs.{HashSet.{HashSet, contains}, List.{list_any, filter}},
}
use Rattle.rc_file.{
  specs.{FileRows.{RcRow, rows_of, section_row, key_row, bad_row}, RcText.without_value, KeyReading.key_fault},
  specs.RcMeaning.{first_bad, missing_section, settings_in, warnings_in, rc_meaning, Warned, firsts, has_no_effect, is_same, warned},
  specs.{declared.{row.ReadRow.ReadRow, key.Section.TheVariants.{Retriever, Destination}}, RowReading.{rows_in, row_of}},
  specs.WarningSearch.{Name, TellsWarning, name_eq},
  proofs.RowLemmas.{continued-nil, first_bad-read},
}

-- what a whole file means

pub good_rows : (read : List ReadRow) → first_bad (rows_in read) ≡ None
good_rows read = rw (continued-nil, append-nil) at (first_bad-read read [] [])

-- where nothing is faulty, the settings and the warnings are meant
pub all_meant : (bytes : List ℕ) (read : List ReadRow) → length bytes ≤ 65536 → rows_of bytes ≡ rows_in read
    → None ≡ missing_section (rows_in read) Retriever → None ≡ missing_section (rows_in read) Destination → key_fault (rows_in read) ≡ None
    → rc_meaning bytes ≡ Ok (settings_in (rows_in read), warnings_in (rows_in read))
unfolding rc_meaning key_fault
all_meant bytes read within same there there' sound =
    rw (same, le-ltb 65536 (length bytes) within, good_rows read, ← there, ← there', sound)

-- the rows from one on
pub row_at : (read : List ReadRow) (i : ℕ) (row : ReadRow) → i < length read → row ≡ get_or read i row
    → map warned (filter has_no_effect (rows_in (drop i read)))
    ≡ map warned (filter has_no_effect (row_of row ∷ rows_in (drop (i + 1) read)))
row_at read i row within item = rw (add-one, drop-cons read i row within, ← item)

-- whether a name was met
met_same : (met : List Warned) (name : Name) (row : Warned) → name.0.now ≡ row.section → name.1.now ≡ row.key
    → list_any (λ earlier. bytes_eq earlier.section name.0.now && bytes_eq earlier.key name.1.now) met ≡ list_any
    (λ earlier. is_same earlier row) met
met_same met name row section key = simp (section, key)

or_cond : (a b : Bool) → cond a true b ≡ a || b
or_cond a b = grind arith

-- a row whose name was not met
pub tells_new : (row : Warned) (found : List Warned) (old new : HashSet Name (BuildHasherDefault FoldHasher)) (name : Name)
    → name.0.now ≡ row.section → name.1.now ≡ row.key → contains name_eq old name ≡ false
    → ((q : Name) → contains name_eq new q ≡ cond (name_eq name q) true (contains name_eq old q))
    → TellsWarning row found old (found ++ (row ∷ [])) new
tells_new row found old new name section key absent updates = λ all rest h.
    let fresh : list_any (λ earlier. is_same earlier row) h.met ≡ false =
    rw (← met_same h.met name row section key, ← h.names name) absent in
    record {
      met = row ∷ h.met;
      whole = h.whole ∙ rw (fresh, append_assoc);
      names = λ q. simp (updates q, or_cond, h.names q, section, key);
    }

-- a row whose name was met
pub tells_again : (row : Warned) (found : List Warned) (old new : HashSet Name (BuildHasherDefault FoldHasher)) (name : Name)
    → name.0.now ≡ row.section → name.1.now ≡ row.key → contains name_eq old name ≡ true → new.keys ≡ old.keys
    → TellsWarning row found old found new
tells_again row found old new name section key there same = λ all rest h.
    let again : list_any (λ earlier. is_same earlier row) h.met ≡ true = rw (← met_same h.met name row section key, ← h.names name) there in
    record { met = h.met; whole = h.whole ∙ rw again; names = λ q. ap (λ (keys : List Name). list_any (name_eq q) keys) same ∙ h.names q }

-- no warning depends on a value
kept_or_not : (b : Bool) (row other : RcRow) (rows others : List RcRow) → warned row ≡ warned other → map warned rows ≡ map warned others
    → map warned (cond b (row ∷ rows) rows) ≡ map warned (cond b (other ∷ others) others)
kept_or_not true row other rows others same rest = rw (same, rest)
kept_or_not false row other rows others same rest = rest

told_same : (rows : List RcRow) → map warned (filter has_no_effect (map without_value rows)) ≡ map warned (filter has_no_effect rows)
told_same [] = refl
told_same (section_row line name ∷ rows) = kept_or_not (has_no_effect (section_row line name)) (section_row line name)
    (section_row line name) (filter has_no_effect (map without_value rows)) (filter has_no_effect rows) refl (told_same rows)
told_same (key_row line section key value ∷ rows) =
    kept_or_not (has_no_effect (key_row line section key value)) (key_row line section key [])
    (key_row line section key value) (filter has_no_effect (map without_value rows)) (filter has_no_effect rows) refl (told_same rows)
told_same (bad_row line ∷ rows) = kept_or_not (has_no_effect (bad_row line)) (bad_row line) (bad_row line)
    (filter has_no_effect (map without_value rows)) (filter has_no_effect rows) refl (told_same rows)

pub warnings_same : (rows : List RcRow) → warnings_in (map without_value rows) ≡ warnings_in rows
warnings_same rows = ap (firsts []) (told_same rows)
