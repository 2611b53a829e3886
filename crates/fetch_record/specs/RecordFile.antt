-- The file of the record as text: the header's line, a line for each row, then groups. A row's line has
-- the id, the second at which it was first seen, and 1 if it was delivered, else 0. A group is the
-- line `+ N` and N rows, which were added to the record, or delivered, since. In version 2 an intent's
-- line may follow the rows or a group: `!`, the id, and two numbers.
use Rattle.std.specs.Prelude.{ℕ, ◌≤◌, List, [], ◌∷◌, ◌++◌, Bool, true, false, not, ◌&&◌, if◌then◌else◌, length, codes}
use Rattle.std.specs.Prelude.{filter, flat_map, Option, Some, None, decimal}
use Rattle.mail_terms.specs.Listing.{message_limit}
use Rattle.fetch_record.specs.Record.{Row, IsRow, Intent, IsIntent, is_of}

pub data Version : Type 0 where
  One : Version
  Two : Version

abbrev pub header : Version → List ℕ
header One = codes "getmail-seen 1\n"
header Two = codes "getmail-seen 2\n"

abbrev pub delivered_octets : Bool → List ℕ
delivered_octets true = codes "1\n"
delivered_octets false = codes "0\n"

-- the line of a row, its LF included; the second is in decimal, without leading zeros
abbrev pub record_row_line : Row → List ℕ
record_row_line row = row.uid
    ++ (codes " " ++ (decimal row.first_seen ++ (codes " " ++ delivered_octets row.delivered)))

-- the line that begins a group of this many rows
abbrev pub group_line : ℕ → List ℕ
group_line count = codes "+ " ++ (decimal count ++ codes "\n")

-- the line of an intent
abbrev pub intent_line : Intent → List ℕ
intent_line intent =
    codes "! " ++ (intent.uid ++
    (codes " " ++ (decimal intent.start ++ (codes " " ++ (decimal intent.len ++ codes "\n")))))

abbrev pub last_intent_line : Option Intent → List ℕ
last_intent_line None = []
last_intent_line (Some intent) = intent_line intent

-- the file without groups
abbrev pub file_of : List Row → Option Intent → List ℕ
file_of rows intent = header Two ++ (flat_map record_row_line rows ++ last_intent_line intent)

-- a group of rows
abbrev pub group_of : List Row → List ℕ
group_of group = group_line (length group) ++ flat_map record_row_line group

-- the rows of a record that an older one lacks, or that were delivered since; rows keep their places
abbrev pub changed : List Row → List Row → List Row
changed [] new = new
changed (row ∷ old) [] = []
changed (row ∷ old) (next ∷ new) = if next.delivered && not row.delivered then (next ∷ changed old new)
    else changed old new

-- the group of these rows; empty if there are none
abbrev pub written : List Row → List ℕ
written [] = []
written (row ∷ rows) = group_of (row ∷ rows)

-- the rows that a mark of an id writes: if an intent is open the id's row, else the row that it changed, if any
abbrev pub marking : Option Intent → List ℕ → List Row → List Row → List Row
marking None uid old new = changed old new
marking (Some intent) uid old new = filter (is_of uid) new

-- a line after the header: a row's, one that begins a group, or an intent's
pub data Line : Type 0 where
  RowLine : (row : Row) → Line
  GroupLine : (count : ℕ) → Line
  IntentLine : (intent : Intent) → Line

abbrev pub record_line : Line → List ℕ
record_line (RowLine row) = record_row_line row
record_line (GroupLine count) = group_line count
record_line (IntentLine intent) = intent_line intent

abbrev pub IsRecordLine : Line → Type 0
IsRecordLine (RowLine row) = IsRow row
IsRecordLine (GroupLine count) = (1 ≤ count) × (count ≤ message_limit)
IsRecordLine (IntentLine intent) = IsIntent intent
