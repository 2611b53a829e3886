-- When a record's file has grown so much that it is to be written anew: its groups and intents outweigh the rows after
-- its header.
use Rattle.std.specs.Prelude.{◌≡◌, ◌≢◌, ◌⊎◌, ℕ, ◌≤◌, ◌<◌, List, ◌++◌, Bool, false, length, flat_map, All, nat_lt}
use Rattle.fetch_record.specs.{Record.{Row, IsRow}, RecordFile.{Version, header, record_row_line}}

-- the bytes begin with no row's line
abbrev pub BeginsWithNoRow : List ℕ → Type 0
BeginsWithNoRow rest = (row : Row) (behind : List ℕ) → IsRow row → rest ≢ record_row_line row ++ behind

-- the bytes are the lines of these rows, and a rest that begins with no row's line
pub record RowsThen (bytes : List ℕ) (rows : List Row) (rest : List ℕ) : Type 0 where
  pub each : All IsRow rows
  pub whole : bytes ≡ flat_map record_row_line rows ++ rest
  pub ends : BeginsWithNoRow rest

-- the rows after a file's header, and what was appended since
pub record IsBase (bytes : List ℕ) (rows : List Row) (appended : List ℕ) : Type 0 where
  pub version : Version
  pub lines : List ℕ
  pub whole : bytes ≡ header version ++ lines
  pub parts : RowsThen lines rows appended

-- a file of at most this many octets is never written anew for what was appended to it
abbrev pub small_file : ℕ
small_file = 65536

-- whether the file is larger than that, and more of its octets were appended than its first rows have
abbrev pub IsOutgrown : List ℕ → Bool → Type 0
IsOutgrown bytes outgrown =
    ((length bytes ≤ small_file) × (outgrown ≡ false))
    ⊎ ((((version : Version) (rest : List ℕ) → bytes ≢ header version ++ rest) × (outgrown ≡ false))
    ⊎ ((small_file < length bytes) × ((rows : List Row) × (appended : List ℕ) × IsBase bytes rows appended
    × (outgrown ≡ nat_lt (length (flat_map record_row_line rows)) (length appended)))))
