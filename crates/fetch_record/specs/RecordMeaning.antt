-- What the bytes of a record's file stand for. Its lines are judged one by one: the rows after the
-- header have distinct ids, and each row of a group names a new id, or one that wasn't delivered and
-- now is; in version 2 also one that was. In version 2 an intent's line, whose id has a row, opens an
-- intent if none is open, and a whole group ends it. A torn end counts for nothing: a last piece
-- without LF, and a last group that lacks rows, though its rows are judged.
use Rattle.std.specs.{
  Prelude.{◌≡◌, ◌≢◌, ◌⊎◌, ℕ, zero, suc, ◌+◌, ◌-◌, ◌==◌, List, [], ◌∷◌, ◌++◌, Bool, true, false, not, ◌&&◌, ◌||◌, Some},
  Prelude.{if◌then◌else◌, Option, None, length, min, flat_map, All},
  List.list_any,
}
use Rattle.fetch_record.specs.{
  Record.{Row, Intent, is_of, has_row, marked},
  RecordFile.{Version, One, Two, header, Line, RowLine, GroupLine, IntentLine, IsRecordLine, record_line},
  declared.seen.SeenFault.{SeenFault, TheVariants.{BadHeader, BadRow, RepeatedId}},
}

-- whether a group's row may mark this row as delivered: in version 1 only if it wasn't before
abbrev pub may_repeat : Version → Row → Bool
may_repeat One old = not old.delivered
may_repeat Two old = true

-- whether a group's row delivers an id: it has a row with the same second, in version 1 not delivered before
abbrev pub delivers : Version → List Row → Row → Bool
delivers version rows row = row.delivered
    && list_any (λ old. is_of row.uid old && (may_repeat version old && (old.first_seen == row.first_seen))) rows

-- whether a group may hold the row after these rows
abbrev pub may_take : Version → List Row → Row → Bool
may_take version rows row = not (has_row rows row.uid) || delivers version rows row

-- the rows after a group's row: it is added, or its id is delivered
abbrev pub with_taken : List Row → Row → List Row
with_taken rows row = if has_row rows row.uid then marked rows row.uid else (rows ++ row ∷ [])

-- how far the lines have come
pub data Progress : Type 0 where
  -- after the header and these rows
  InBase : (rows : List Row) → Progress
  -- after a whole group or an intent's line; these are the rows with all groups so far, and the open intent
  BetweenGroups : (rows : List Row) (intent : Option Intent) → Progress
  -- within a group: the rows before it and the intent that is open there, the rows with its rows so far, and how many
  -- rows are to come after the next one
  InGroup : (before : List Row) (intent : Option Intent) (rows : List Row) (more : ℕ) → Progress

pub data Judged : Type 0 where
  Stands : (progress : Progress) → Judged
  Fails : (fault : SeenFault) → Judged

-- the number of the line after the header and n lines: lines are counted from 1, and all from the
-- greatest number of 32 bits on have that number
abbrev pub line_after : ℕ → ℕ
line_after n = min (n + 2) 4294967295

-- an intent's line is allowed only in version 2, if no intent is open, and if its id has a row
abbrev pub after_intent : Version → ℕ → List Row → Option Intent → Intent → Judged
after_intent One n rows before intent = Fails (BadRow (line_after n))
after_intent Two n rows (Some other) intent = Fails (BadRow (line_after n))
after_intent Two n rows None intent = if has_row rows intent.uid
    then Stands (BetweenGroups rows (Some intent)) else Fails (BadRow (line_after n))

-- one more line, after n lines
abbrev pub after_line : Version → ℕ → Progress → Line → Judged
after_line version n (InBase rows) (RowLine row) = if has_row rows row.uid
    then Fails (RepeatedId (line_after n)) else Stands (InBase (rows ++ row ∷ []))
after_line version n (InBase rows) (GroupLine count) = Stands (InGroup rows None rows (count - 1))
after_line version n (InBase rows) (IntentLine intent) = after_intent version n rows None intent
after_line version n (BetweenGroups rows before) (RowLine row) = Fails (BadRow (line_after n))
after_line version n (BetweenGroups rows before) (GroupLine count) = Stands (InGroup rows before rows (count - 1))
after_line version n (BetweenGroups rows before) (IntentLine intent) = after_intent version n rows before intent
after_line version n (InGroup old before rows zero) (RowLine row) = if may_take version rows row
    then Stands (BetweenGroups (with_taken rows row) None) else Fails (RepeatedId (line_after n))
after_line version n (InGroup old before rows (suc more)) (RowLine row) = if may_take version rows row
    then Stands (InGroup old before (with_taken rows row) more) else Fails (RepeatedId (line_after n))
after_line version n (InGroup old before rows more) (GroupLine count) = Fails (BadRow (line_after n))
after_line version n (InGroup old before rows more) (IntentLine intent) = Fails (BadRow (line_after n))

-- line by line, up to the first that fails; n lines came before
abbrev pub judged : Version → ℕ → Judged → List Line → Judged
judged version n so_far [] = so_far
judged version n (Fails fault) (line ∷ lines) = Fails fault
judged version n (Stands progress) (line ∷ lines) = judged version (n + 1) (after_line version n progress line) lines

-- the rows that count: those of a group that isn't whole don't
abbrev pub counted : Progress → List Row
counted (InBase rows) = rows
counted (BetweenGroups rows intent) = rows
counted (InGroup before intent rows more) = before

-- the intent that is open: a group that isn't whole doesn't end it
abbrev pub left_open : Progress → Option Intent
left_open (InBase rows) = None
left_open (BetweenGroups rows intent) = intent
left_open (InGroup before intent rows more) = intent

-- whether a group lacks rows
abbrev pub lacks_rows : Progress → Bool
lacks_rows (InBase rows) = false
lacks_rows (BetweenGroups rows intent) = false
lacks_rows (InGroup before intent rows more) = true

abbrev pub has_line_feed : List ℕ → Bool
has_line_feed bytes = list_any (λ byte. byte == 10) bytes

abbrev pub has_bytes : List ℕ → Bool
has_bytes [] = false
has_bytes (byte ∷ bytes) = true

-- what bytes stand for: their version, rows, the intent that is open, and whether a torn end follows; or no record
pub data Meaning : Type 0 where
  Rows : (version : Version) (rows : List Row) (intent : Option Intent) (torn : Bool) → Meaning
  Fault : (fault : SeenFault) → Meaning

-- the bytes begin with no line
abbrev pub BeginsWithNoLine : List ℕ → Type 0
BeginsWithNoLine rest = (line : Line) (behind : List ℕ) → IsRecordLine line → rest ≢ record_line line ++ behind

-- the end after n lines: it has a line that is of no kind, or it counts for nothing
abbrev pub at_end : Version → ℕ → Progress → List ℕ → Meaning
at_end version n progress rest =
    if has_line_feed rest then Fault (BadRow (line_after n))
    else Rows version (counted progress) (left_open progress) (lacks_rows progress || has_bytes rest)

-- what n lines and the rest mean: the first line that fails decides; if none does, the rest
-- begins with no line
abbrev pub Ends : Version → ℕ → Judged → List ℕ → Meaning → Type 0
Ends version n (Fails fault) rest meaning = meaning ≡ Fault fault
Ends version n (Stands progress) rest meaning = BeginsWithNoLine rest × (meaning ≡ at_end version n progress rest)

-- the bytes are the header, these lines, and a rest
pub record IsCut (version : Version) (bytes : List ℕ) (lines : List Line) (rest : List ℕ) : Type 0 where
  pub each : All IsRecordLine lines
  pub whole : bytes ≡ header version ++ (flat_map record_line lines ++ rest)

pub record ByLines (bytes : List ℕ) (meaning : Meaning) : Type 0 where
  pub version : Version
  pub lines : List Line
  pub rest : List ℕ
  pub cut : IsCut version bytes lines rest
  pub ends : Ends version (length lines) (judged version 0 (Stands (InBase [])) lines) rest meaning

-- what bytes stand for: if there are none, the empty record; else they begin with a header's line, or are no record
abbrev pub Means : List ℕ → Meaning → Type 0
Means bytes meaning =
    ((bytes ≡ []) × (meaning ≡ Rows Two [] None false))
    ⊎ (((bytes ≢ []) × ((version : Version) (rest : List ℕ) → bytes ≢ header version ++ rest)
    × (meaning ≡ Fault BadHeader))
    ⊎ ByLines bytes meaning)

-- the bytes stand for this record, whatever their version, torn end or not
abbrev pub StandsFor : List ℕ → List Row → Option Intent → Type 0
StandsFor bytes rows intent = (version : Version) × (torn : Bool) × Means bytes (Rows version rows intent torn)

-- a file stands for this record: a missing file, like an empty one, for the empty record
abbrev pub FileStandsFor : Option (List ℕ) → List Row → Option Intent → Type 0
FileStandsFor None rows intent = (rows ≡ []) × (intent ≡ None)
FileStandsFor (Some bytes) rows intent = StandsFor bytes rows intent
