-- How a record's file grows by appended groups and intents, and what is kept if an append is cut short.
use Rattle.std.specs.Prelude.{◌≡◌, ◌≢◌, ◌⊎◌, ℕ, ◌≤◌, List, [], ◌∷◌, ◌++◌, false, Bool, Option, Some, None, length}
use Rattle.std.specs.Prelude.{All, IsTrue}
use Rattle.mail_terms.specs.Listing.{message_limit}
use Rattle.fetch_record.specs.{
  Record.{Row, Intent, IsRow, IsIntent, IsRecord, IntentHasRow, has_row},
  RecordFile.{Version, One, Two, header, file_of, group_of, intent_line},
  RecordMeaning.{Meaning, Rows, Means, FileStandsFor, may_take, with_taken, has_bytes},
}

-- the rows after a whole group
abbrev pub taken_all : List Row → List Row → List Row
taken_all rows [] = rows
taken_all rows (row ∷ more) = taken_all (with_taken rows row) more

-- each row of a group may follow those before it
abbrev pub MayFollow : List Row → List Row → Type 0
MayFollow rows [] = Unit {0}
MayFollow rows (row ∷ more) = IsTrue (may_take Two rows row) × MayFollow (with_taken rows row) more

-- a group that may follow these rows
pub record IsGroup (rows group : List Row) : Type 0 where
  pub each : All IsRow group
  pub count : (1 ≤ length group) × (length group ≤ message_limit)
  pub follows : MayFollow rows group

-- what an update of the rows appends to a file: nothing if rows and intent stay, else one group, which ends an open
-- intent
abbrev pub Updates : List Row → Option Intent → List ℕ → List Row → Option Intent → Type 0
Updates old before bytes new after =
    ((bytes ≡ []) × (new ≡ old) × (after ≡ before))
    ⊎ ((group : List Row) × IsGroup old group × (bytes ≡ group_of group) × (new ≡ taken_all old group) × (after ≡ None))

-- what is appended when an intent is opened: its line
pub record OpensIntent (old : List Row) (before : Option Intent) (bytes : List ℕ) (new : List Row)
    (after : Option Intent) : Type 0 where
  pub intent : Intent
  pub is_one : IsIntent intent
  pub row : IsTrue (has_row old intent.uid)
  pub closed : before ≡ None
  pub bytes_are : bytes ≡ intent_line intent
  pub same : new ≡ old
  pub opened : after ≡ Some intent

abbrev pub Grows : List Row → Option Intent → List ℕ → List Row → Option Intent → Type 0
Grows old before bytes new after = Updates old before bytes new after ⊎ OpensIntent old before bytes new after

-- a law: bytes have one meaning
abbrev pub OneMeaning : Type 0
OneMeaning = (bytes : List ℕ) (a b : Meaning) → Means bytes a → Means bytes b → a ≡ b

-- a law: a file stands for one record
abbrev pub OneRecord : Type 0
OneRecord = (file : Option (List ℕ)) (a b : List Row) (i j : Option Intent) → FileStandsFor file a i
    → FileStandsFor file b j → (a ≡ b) × (i ≡ j)

-- a law: the file without groups stands for its rows and its intent, and isn't torn
abbrev pub BytesStand : Type 0
BytesStand = (rows : List Row) (intent : Option Intent) → IsRecord rows → IntentHasRow rows intent
    → Means (file_of rows intent) (Rows Two rows intent false)

-- a law: if a file of version 2 is neither empty nor torn, what was appended to it whole counts
abbrev pub AppendedCounts : Type 0
AppendedCounts = (bytes added : List ℕ) (old new : List Row) (before after : Option Intent) → bytes ≢ []
    → Means bytes (Rows Two old before false) → Grows old before added new after
    → Means (bytes ++ added) (Rows Two new after false)

-- a law: if only a front of it was appended there, that front counts for nothing, and is a torn end unless it is empty
abbrev pub CutIsIgnored : Type 0
CutIsIgnored = (bytes added front behind : List ℕ) (old new : List Row) (before after : Option Intent)
    → bytes ≢ [] → Means bytes (Rows Two old before false) → Grows old before added new after
    → added ≡ front ++ behind → behind ≢ [] → Means (bytes ++ front) (Rows Two old before (has_bytes front))

-- a law: a file of version 1 has no open intent, and its lines stand for the same rows after the header of version 2
abbrev pub OneIsRead : Type 0
OneIsRead = (rest : List ℕ) (version : Version) (rows : List Row) (intent : Option Intent) (torn : Bool)
    → Means (header One ++ rest) (Rows version rows intent torn)
    → (version ≡ One) × (intent ≡ None) × Means (header Two ++ rest) (Rows Two rows None torn)

-- a law: an open intent has a legal id and numbers of 64 bits, and its id has a row
abbrev pub OpenHasRow : Type 0
OpenHasRow = (bytes : List ℕ) (version : Version) (rows : List Row) (intent : Option Intent) (torn : Bool)
    → Means bytes (Rows version rows intent torn) → IntentHasRow rows intent
