-- The record: which messages of a maildrop were seen, since when, and whether they were delivered.
-- A message is known by its unique-id (RFC 1939, section 7, UIDL).
use Rattle.std.specs.{
  Prelude.{ℕ, ◌<◌, ◌^◌, Bool, false, ◌&&◌, ◌||◌, not, List, [], ◌∷◌, ◌++◌, Option, Some, None, map, filter, find, All},
  Prelude.{bytes_eq, option_map, IsTrue},
  List.list_any,
}
use Rattle.mail_terms.specs.{UniqueId.IsLegalId, Distinct.AreDistinct, Listing.{Item, is_flagged}}

-- one message: its id, the second since 1970 at which it was first listed, and whether it was delivered
pub record Row : Type 0 where
  pub uid : List ℕ
  pub first_seen : ℕ
  pub delivered : Bool

-- the id is legal, and the second is a number of 64 bits
pub record IsRow (row : Row) : Type 0 where
  pub legal : IsLegalId row.uid
  pub fits : row.first_seen < 2 ^ 64

-- rows with distinct ids
pub record IsRecord (rows : List Row) : Type 0 where
  pub each : All IsRow rows
  pub distinct : AreDistinct (map (λ row. row.uid) rows)

-- an entry that is to be appended to an mboxrd file: its message's id, the file's size before it, and its length
pub record Intent : Type 0 where
  pub uid : List ℕ
  pub start : ℕ
  pub len : ℕ

-- the id is legal, and both numbers are of 64 bits
pub record IsIntent (intent : Intent) : Type 0 where
  pub legal : IsLegalId intent.uid
  pub start : intent.start < 2 ^ 64
  pub len : intent.len < 2 ^ 64

-- rows, and an intent that may be open
pub record RecordState : Type 0 where
  pub rows : List Row
  pub intent : Option Intent

abbrev pub none_open : List Row → RecordState
none_open rows = record { rows = rows; intent = None }

-- a record in memory: its rows, the intent that is open, and whether its file must be written anew before something may
-- be appended to it
pub record Loaded : Type 0 where
  pub rows : List Row
  pub intent : Option Intent
  pub stale : Bool

abbrev pub empty : Loaded
empty = record { rows = []; intent = None; stale = false }

-- whether a row is this id's
abbrev pub is_of : List ℕ → Row → Bool
is_of uid row = bytes_eq uid row.uid

-- whether an id has a row
abbrev pub has_row : List Row → List ℕ → Bool
has_row rows uid = list_any (is_of uid) rows

-- whether an id is recorded as delivered
abbrev pub is_delivered : List Row → List ℕ → Bool
is_delivered rows uid = list_any (λ row. is_of uid row && row.delivered) rows

-- when an id was first seen
abbrev pub first_seen_of : List Row → List ℕ → Option ℕ
first_seen_of rows uid = option_map (λ row. row.first_seen) (find (is_of uid) rows)

-- the row, with delivered set if `also` is true
abbrev pub with_delivered : Bool → Row → Row
with_delivered also row = record row { delivered = row.delivered || also }

-- the rows, with delivered set for this id
abbrev pub marked : List Row → List ℕ → List Row
marked rows uid = map (λ row. with_delivered (is_of uid row) row) rows

-- the rows, with delivered set for these ids, one after another
abbrev pub marked_all : List Row → List (List ℕ) → List Row
marked_all rows [] = rows
marked_all rows (uid ∷ uids) = marked_all (marked rows uid) uids

-- the ids, each once, in order of first appearance
abbrev pub distinct_ids : List (List ℕ) → List (List ℕ)
distinct_ids [] = []
distinct_ids (uid ∷ uids) = uid ∷ filter (λ other. not (bytes_eq uid other)) (distinct_ids uids)

-- the ids of a listing that have no row, each once, in order of first appearance
abbrev pub new_ids : List Row → List Item → List (List ℕ)
new_ids rows listing = filter (λ uid. not (has_row rows uid)) (distinct_ids (map (λ item. item.uid) listing))

-- the row of an id that was seen for the first time
abbrev pub undelivered : ℕ → List ℕ → Row
undelivered now uid = record { uid = uid; first_seen = now; delivered = false }

-- the rows, with delivered set for the ids that are flagged
abbrev pub with_held : List Item → List Bool → List Row → List Row
with_held listing held rows = map (λ row. with_delivered (is_flagged listing held row.uid) row) rows

-- the rows, with delivered set for the ids that are flagged, followed by a row for each id of the
-- listing that has none
abbrev pub merged : List Row → List Item → List Bool → ℕ → List Row
merged rows listing held now =
    with_held listing held rows
    ++ map (λ uid. record { uid = uid; first_seen = now; delivered = is_flagged listing held uid })
    (new_ids rows listing)

-- an open intent has a legal id and numbers of 64 bits, and its id has a row
abbrev pub IntentHasRow : List Row → Option Intent → Type 0
IntentHasRow rows None = Unit {0}
IntentHasRow rows (Some intent) = IsIntent intent × IsTrue (has_row rows intent.uid)
