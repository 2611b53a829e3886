-- What was read of a record's file so far, line by line.
use Rattle.std.proofs.{
  Common.{Bool, List, None, Option, Some, ap, append-nil, append_assoc, ap₂, arith, false, flat_map, length, length-append, refl, suc, sym},
  Common.{true, true≢false, zero, ℕ, ◌++◌, ◌+◌, ◌∙◌, ◌∷◌, ◌≡◌, ◌≢◌, ◌-◌, ◌≤◌, All, min, take, []},
  Math.Seq.take-append_seam,
  lemmas.List.{Concat.flat_map-append, Elements.{All-nil, All-push}},
}
use Rattle.fetch_record.{
  specs.Lines.{EndsAt, IsPlaced, TakesIntent, TakesRow, after_row, behind_base, is_in_group, open_behind, open_seen, progress_of},
  specs.Lines.version_of,
  specs.{Outgrown.BeginsWithNoRow, Record.{Intent, IsIntent, Row, IsRecord, IsRow}},
  specs.declared.{seen.SeenFault.{SeenFault, TheVariants.BadRow}, line.Intent.Intent as ReadIntent},
  specs.declared.reading.{End.{End, TheVariants.{NoneOpen, Open}}, Part.{Part, TheVariants.{Base, Between, Within}}},
  specs.RecordFile.{GroupLine, IntentLine, IsRecordLine, Line, RowLine, Version, header, record_line, record_row_line},
  specs.RecordMeaning.{BetweenGroups, Fails, Fault, InGroup, Means, Progress, Rows, Stands, after_line, counted, lacks_rows, left_open},
  specs.RecordMeaning.line_after,
  proofs.LineLemmas.{text_unique, no_line},
  proofs.MeaningLemmas.{rows_no_fault, same_rows, one_meaning, IsBehind, behind_header, behind_more, behind_fails, means_behind},
}

-- ---- the rows that a file's lines begin with, and what follows them

-- the lines are those of some rows, and this rest
pub record BeginsWithRows (lines rest : List ℕ) : Type 0 where
  pub rows : List Row
  pub each : All IsRow rows
  pub whole : lines ≡ flat_map record_row_line rows ++ rest

rows_more : (lines rest : List ℕ) (row : Row) (behind : List ℕ) → BeginsWithRows lines rest → IsRow row
    → rest ≡ record_row_line row ++ behind → BeginsWithRows lines behind
rows_more _ _ row behind were is line = record {
  rows = were.rows ++ row ∷ [];
  each = All-push IsRow _ row were.each is;
  whole = were.whole ∙ ap (λ xs. flat_map record_row_line were.rows ++ xs) line ∙ simp (flat_map-append, append_assoc, append-nil);
}

-- what follows the first rows so far: the rest while the next line may be one of them, else what begins with no row
abbrev pub Follows : Part → List ℕ → List ℕ → Type 0
Follows Base appended rest = appended ≡ rest
Follows Between appended _ = BeginsWithNoRow appended
Follows (Within _) appended _ = BeginsWithNoRow appended

apart_row : (part : Part) (lines rest appended : List ℕ) (row : Row) (behind : List ℕ) → BeginsWithRows lines appended
    → Follows part appended rest → IsRow row → rest ≡ record_row_line row ++ behind
    → BeginsWithRows lines (behind_base (after_row part) appended behind)
    × Follows (after_row part) (behind_base (after_row part) appended behind) behind
apart_row Base lines _ appended row behind begins follows is line = (rows_more _ _ _ _ begins is (cc follows), refl)
apart_row (Within zero) _ _ _ _ behind begins follows _ _ = (begins, follows)
apart_row _ _ _ _ _ behind begins follows _ _ = (begins, follows)

-- after a line that is no row's
no_row_begins : (part : Part) (rest appended : List ℕ) (line : Line) (behind : List ℕ) → Follows part appended rest
    → IsRecordLine line → rest ≡ record_line line ++ behind → ((row : Row) → RowLine row ≢ line) → BeginsWithNoRow appended
no_row_begins Base _ _ _ behind at is line_is other =
    λ row _ is_row here. other row (text_unique _ _ _ _ is_row is (sym here ∙ at ∙ line_is)).0
no_row_begins _ _ _ _ behind none _ _ _ = none

-- ---- the loop

pub record Reads (bytes lines : List ℕ) (older : Bool) (part : Part) (intent : Option Intent) (rows : List Row)
    (rest appended : List ℕ) (number front : ℕ) : Type 0 where
  pub n : ℕ
  pub before : List Row
  pub behind : IsBehind (version_of older) bytes n (progress_of part intent before rows) rest
  pub number_is : number ≡ line_after n
  pub opened : is_in_group part ≡ true → (front ≤ length bytes)
      × Means (take front bytes) (Rows (version_of older) before intent false)
  pub placed : IsPlaced part intent
  pub good : IsRecord rows
  pub begins : BeginsWithRows lines appended
  pub follows : Follows part appended rest

pub Reads-none : (older : Bool) (bytes rest : List ℕ) → bytes ≡ header (version_of older) ++ rest → (rows : List Row)
    → rows ≡ [] → IsRecord rows → Reads bytes rest older Base None rows rest rest 2 0
Reads-none older bytes rest is rows none good = record {
  n = 0;
  before = [];
  behind = rw none (behind_header _ _ _ is);
  number_is = refl;
  opened = λ within. absurd (true≢false (sym within));
  placed = refl;
  good = good;
  begins = record { rows = []; each = All-nil IsRow; whole = refl };
  follows = refl;
}

next_number : (n number : ℕ) → number ≡ line_after n → min (number + 1) 4294967295 ≡ line_after (n + 1)
next_number n _ is = omega (arith, is)

-- a row leads into no group and ends no part but a group
within_next : (part : Part) (intent : Option Intent) → is_in_group (after_row part) ≡ true → (is_in_group part ≡ true)
    × (open_behind (after_row part) intent ≡ intent)
within_next (Within (suc _)) _ _ = (refl, refl)
within_next (Within zero) _ within = absurd (true≢false (sym within))
within_next _ _ within = absurd (true≢false (sym within))

placed_next : (part : Part) (intent : Option Intent) → IsPlaced part intent
    → IsPlaced (after_row part) (open_behind (after_row part) intent)
placed_next Base _ placed = placed
placed_next (Within zero) _ placed = tt
placed_next _ _ placed = tt

pub seen_behind : (part : Part) (intent : Option ReadIntent) → open_seen (open_behind part intent) ≡ open_behind part (open_seen intent)
seen_behind Between _ = refl
seen_behind _ _ = refl

-- what comes before a group
front_means : {version : Version} {bytes : List ℕ} {n : ℕ} {progress : Progress} {rest : List ℕ}
    → IsBehind version bytes n progress rest → lacks_rows progress ≡ false → (length rest ≤ length bytes)
    × Means (take (length bytes - length rest) bytes) (Rows version (counted progress) (left_open progress) false)
front_means {version} {bytes} {n} {progress} {rest} was free = (
  omega (arith, long),
  rw front_is (means_behind (record {
    lines = was.lines;
    cut = record { each = was.cut.each; whole = rw append-nil refl };
    count =
        was.count;
    stands = was.stands;
  }) _ (no_line [] tt) (rw free refl)),
)
  where
    texts : List ℕ
    texts = header version ++ flat_map record_line was.lines

    whole : bytes ≡ texts ++ rest
    whole = was.cut.whole ∙ sym (append_assoc (header version) (flat_map record_line was.lines) rest)

    long : length bytes ≡ length texts + length rest
    long = ap length whole ∙ length-append texts rest

    front_is : take (length bytes - length rest) bytes ≡ texts
    front_is = ap₂ (λ k xs. take k xs) (omega (arith, long)) whole ∙ take-append_seam texts rest

-- where a group may begin
free_progress : (part : Part) (intent : Option Intent) (before rows : List Row) → IsPlaced part intent → is_in_group part ≡ false
    → (lacks_rows (progress_of part intent before rows) ≡ false) × (counted (progress_of part intent before rows) ≡ rows)
    × (left_open (progress_of part intent before rows) ≡ intent) × ((version : Version) (n count : ℕ)
    → after_line version n (progress_of part intent before rows) (GroupLine count) ≡ Stands (InGroup rows intent rows (count - 1)))
free_progress Base _ before rows placed _ = (refl, refl, sym placed, λ _ n _. rw placed refl)
free_progress Between _ before rows placed _ = (refl, refl, refl, λ _ n _. refl)
free_progress (Within _) _ before rows placed free = absurd (true≢false free)

refused : (version : Version) (part : Part) (n : ℕ) (intent : Option Intent) (before rows : List Row) (count : ℕ) → is_in_group part ≡ true
    → after_line version n (progress_of part intent before rows) (GroupLine count) ≡ Fails (BadRow (line_after n))
refused _ (Within zero) n _ before rows _ _ = refl
refused _ (Within (suc _)) n _ before rows _ _ = refl
refused _ _ n _ before rows _ within = absurd (true≢false (sym within))

module _ {bytes lines : List ℕ} {older : Bool} {part : Part} {open' : Option Intent} {rows : List Row}
    {rest appended : List ℕ} {number front : ℕ} (were : Reads bytes lines older part open' rows rest appended number
    front) (behind : List ℕ) where
  pub Reads-row : (row : Row) (new : List Row) → IsRow row → rest ≡ record_line (RowLine row) ++ behind
      → TakesRow older part rows row (after_row part) new → IsRecord new
      → Reads bytes lines older (after_row part) (open_behind (after_row part) open') new behind
      (behind_base (after_row part) appended behind) (min (number + 1) 4294967295) front
  Reads-row row _ is line takes good =
      let apart = apart_row _ _ _ _ _ _ were.begins were.follows is line in
      record {
        n = were.n + 1;
        before = were.before;
        behind = behind_more were.behind (RowLine row) behind _ is line (takes were.n were.before open');
        number_is = next_number were.n number were.number_is;
        opened = λ within. let stays = within_next part open' within in rw stays.1 (were.opened stays.0);
        placed = placed_next part open' were.placed;
        good = good;
        begins = apart.0;
        follows = apart.1;
      }

  pub Reads-group : (count : ℕ) → IsRecordLine (GroupLine count) → rest ≡ record_line (GroupLine count) ++ behind → is_in_group part ≡ false
      → Reads bytes lines older (Within (count - 1)) open' rows behind appended (min (number + 1) 4294967295) (length bytes - length rest)
  Reads-group count is line free =
      let at = free_progress _ _ _ _ were.placed free in
      let there = front_means were.behind at.0 in
      record {
        n = were.n + 1;
        before = rows;
        behind = behind_more were.behind (GroupLine count) _ (InGroup rows open' rows (count - 1)) is line
            (at.3 (version_of older) were.n count);
        number_is = next_number _ _ were.number_is;
        opened = λ _. (omega (arith, there.0), rw (at.1, at.2) at there.1);
        placed = tt;
        good = were.good;
        begins = were.begins;
        follows = no_row_begins part rest appended (GroupLine count) behind were.follows is line (λ _ e. cc);
      }

  pub Reads-intent : (intent : Intent) → IsIntent intent → rest ≡ record_line (IntentLine intent) ++ behind
      → TakesIntent older part open' rows intent
      → Reads bytes lines older Between (Some intent) rows behind appended (min (number + 1) 4294967295) front
  Reads-intent intent is line takes = record {
    n = were.n + 1;
    before = were.before;
    behind = behind_more were.behind (IntentLine intent) _ (BetweenGroups rows (Some intent)) is line (takes were.n were.before);
    number_is = next_number _ _ were.number_is;
    opened = λ within. absurd (true≢false (sym within));
    placed = tt;
    good = were.good;
    begins = were.begins;
    follows = no_row_begins part rest appended (IntentLine intent) behind were.follows is line (λ _ e. cc);
  }

  pub Reads-fails : (line : Line) (fault : SeenFault) → IsRecordLine line → rest ≡ record_line line ++ behind
      → ((n : ℕ) (before : List Row) → number ≡ line_after n
      → after_line (version_of older) n (progress_of part open' before rows) line ≡ Fails fault) → Means bytes (Fault fault)
  Reads-fails _ fault is rest_is refuses = behind_fails were.behind _ _ fault is rest_is (refuses were.n were.before were.number_is)

  pub Reads-group_fails : (count : ℕ) → IsRecordLine (GroupLine count) → rest ≡ record_line (GroupLine count) ++ behind
      → is_in_group part ≡ true → Means bytes (Fault (BadRow number))
  Reads-group_fails count is line within =
      Reads-fails (GroupLine count) _ is line
      (λ n before number_is. rw number_is (refused (version_of older) part n _ before rows count within))

-- if a group lacks rows, what comes before it is read again
pub rows_again : (bytes : List ℕ) (older anew : Bool) (front : ℕ) (intent then : Option Intent) (rows : List Row)
    (end : End) (new : List Row) → EndsAt bytes older (Open front) intent rows
    → EndsAt (take front bytes) anew end then new → Means bytes (Rows (version_of older) new intent true)
rows_again bytes older anew front intent then rows (NoneOpen torn) new ends again =
    rw (← (same_rows (one_meaning (take front bytes) (Rows (version_of older) ends.1.0 intent false)
    (Rows (version_of anew) new then torn) ends.1.2 again)).1) ends.1.1
rows_again bytes older anew front intent then rows (Open _) _ ends again =
    absurd (true≢false (sym (same_rows (one_meaning (take front bytes) (Rows (version_of older) ends.1.0 intent false)
    (Rows (version_of anew) again.1.0 then true) ends.1.2 again.1.1)).3))

pub no_fault_again : (bytes : List ℕ) (older : Bool) (front : ℕ) (intent : Option Intent) (rows : List Row)
    (fault : SeenFault) → EndsAt bytes older (Open front) intent rows → Means (take front bytes) (Fault fault) → ⊥
no_fault_again bytes older front intent rows fault ends again =
    rows_no_fault (one_meaning (take front bytes) (Rows (version_of older) ends.1.0 intent false) (Fault fault) ends.1.2 again)
