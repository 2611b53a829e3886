-- The lines of the record's file and the reader's place among them, as the code has them.
use Rattle.std.specs.Prelude.{◌≡◌, ℕ, zero, suc, ◌≤◌, List, Bool, true, false, Option, Some, None, length, take}
use Rattle.std.specs.Prelude.{option_map}
use Rattle.fetch_record.specs.{
  Record.{Row, Intent},
  RecordFile.{Version, One, Two, RowLine, GroupLine, IntentLine, Line as FileLine},
  RecordMeaning.{Progress, InBase, BetweenGroups, InGroup, Stands, Fails, after_line, line_after, Means, Rows},
  Rows.row_from,
  declared.seen.SeenFault.SeenFault,
  declared.line.Line.{Line, TheVariants.{Row as TheRow, Group as TheGroup, Opening as TheIntent}},
  declared.line.Intent.Intent as ReadIntent,
  declared.reading.{Part.{Part, TheVariants.{Base, Between, Within}}, End.{End, TheVariants.{NoneOpen, Open}}},
}

abbrev pub version_of : Bool → Version
version_of true = One
version_of false = Two

abbrev pub intent_seen : ReadIntent → Intent
intent_seen intent = record { uid = intent.uid.now; start = intent.start; len = intent.len }

abbrev pub open_seen : Option ReadIntent → Option Intent
open_seen intent = option_map intent_seen intent

abbrev pub line_seen : Line → FileLine
line_seen (TheRow row) = RowLine (row_from row.uid.now row.state)
line_seen (TheGroup count) = GroupLine count
line_seen (TheIntent intent) = IntentLine (intent_seen intent)

-- how far the lines have come in a part of the file, with the open intent, and the rows before the part if it is a
-- group
abbrev pub progress_of : Part → Option Intent → List Row → List Row → Progress
progress_of Base intent before rows = InBase rows
progress_of Between intent before rows = BetweenGroups rows intent
progress_of (Within more) intent before rows = InGroup before intent rows more

-- no intent is open among the rows after the header
abbrev pub IsPlaced : Part → Option Intent → Type 0
IsPlaced Base intent = intent ≡ None
IsPlaced _ intent = Unit {0}

abbrev pub is_in_group : Part → Bool
is_in_group Base = false
is_in_group Between = false
is_in_group (Within more) = true

-- the part after a row
abbrev pub after_row : Part → Part
after_row Base = Base
after_row Between = Between
after_row (Within zero) = Between
after_row (Within (suc more)) = Within more

-- what follows the rows after the header, so far: all of the rest while the next line may be one of them
abbrev pub behind_base : Part → List ℕ → List ℕ → List ℕ
behind_base Base before rest = rest
behind_base _ before rest = before

-- the intent that is open after a row that leads into this part
abbrev pub open_behind : {X : Type 0} → Part → Option X → Option X
open_behind Between intent = None
open_behind _ intent = intent

-- a row is allowed there, after any number of lines; the part and the rows after it
abbrev pub TakesRow : Bool → Part → List Row → Row → Part → List Row → Type 0
TakesRow older part rows row next new =
    (n : ℕ) (before : List Row) (intent : Option Intent)
    → after_line (version_of older) n (progress_of part intent before rows) (RowLine row)
    ≡ Stands (progress_of next (open_behind next intent) before new)

-- a row is not allowed there, on the line of this number
abbrev pub RefusesRow : Bool → Part → List Row → Row → ℕ → SeenFault → Type 0
RefusesRow older part rows row number fault =
    (n : ℕ) (before : List Row) (intent : Option Intent) → number ≡ line_after n
    → after_line (version_of older) n (progress_of part intent before rows) (RowLine row) ≡ Fails fault

-- an intent's line is allowed there
abbrev pub TakesIntent : Bool → Part → Option Intent → List Row → Intent → Type 0
TakesIntent older part open' rows intent =
    (n : ℕ) (before : List Row)
    → after_line (version_of older) n (progress_of part open' before rows) (IntentLine intent)
    ≡ Stands (BetweenGroups rows (Some intent))

abbrev pub RefusesIntent : Bool → Part → Option Intent → List Row → Intent → ℕ → SeenFault → Type 0
RefusesIntent older part open' rows intent number fault =
    (n : ℕ) (before : List Row) → number ≡ line_after n
    → after_line (version_of older) n (progress_of part open' before rows) (IntentLine intent) ≡ Fails fault

-- what the bytes stand for, by their end, the open intent and the rows that were read
abbrev pub EndsAt : List ℕ → Bool → End → Option Intent → List Row → Type 0
EndsAt bytes older (NoneOpen torn) intent rows = Means bytes (Rows (version_of older) rows intent torn)
EndsAt bytes older (Open front) intent rows = (front ≤ length bytes)
    × ((before : List Row) × Means bytes (Rows (version_of older) before intent true)
    × Means (take front bytes) (Rows (version_of older) before intent false))
