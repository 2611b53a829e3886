-- The line of an rc file's fault.
use Rattle.std.specs.{
  Prelude.{◌&&◌, ◌||◌, ◌+◌, ℕ, Bool, false, List, length, take, drop, if◌then◌else◌, bytes_eq, Option, Some, None},
  List.{filter_map, last_or, list_any, range_with_len},
}
use Rattle.rc_file.specs.{
  Answer.fault_in,
  KeyTable.rule,
  declared.fault.RcFault.RcFault,
  declared.fault.RcFault.TheVariants.{TooLong, BadLine, MissingKey, UnknownType, BadValue, Unsupported, BadPath},
  declared.key.Key.TheVariants.Path,
  FileRows.{RcRow, section_row, key_row, bad_row, rows_of},
  RcMeaning.{is_named, rc_meaning},
}

-- two names are the same but for one letter after the first n: another, one more or one less
abbrev pub is_near_after : List ℕ → List ℕ → ℕ → Bool
is_near_after name other n = bytes_eq (take n name) (take n other)
    && (bytes_eq (drop (n + 1) name) (drop (n + 1) other) || bytes_eq (drop n name) (drop (n + 1) other)
    || bytes_eq (drop (n + 1) name) (drop n other))

abbrev pub is_near : List ℕ → List ℕ → Bool
is_near name other = list_any (is_near_after name other) (range_with_len 0 (length other + 1))

-- what a fault is about: a key whose value is wrong; of a missing key, one whose name is one letter off
abbrev pub is_about : RcFault → List ℕ → List ℕ → Bool
is_about (MissingKey key) section name = bytes_eq section (rule key).section && is_near name (rule key).name
is_about (UnknownType key) section name = is_named section name key
is_about (BadValue key) section name = is_named section name key
is_about (Unsupported key) section name = is_named section name key
is_about BadPath section name = is_named section name Path
is_about fault section name = false

abbrev pub line_at : RcFault → RcRow → Option ℕ
line_at fault (section_row line name) = None
line_at fault (key_row line section name value) = if is_about fault section name then Some line else None
line_at fault (bad_row line) = None

-- the last row that a fault is about decides, as that of a key does
unfoldable pub last_line : RcFault → List RcRow → Option ℕ
last_line fault rows = last_or None (filter_map (line_at fault) rows)

abbrev pub line_of_fault : List RcRow → Option RcFault → Option ℕ
line_of_fault rows None = None
line_of_fault rows (Some TooLong) = None
line_of_fault rows (Some (BadLine line)) = Some line
line_of_fault rows (Some fault) = last_line fault rows

-- the line of the fault of a file of these bytes, if it has a fault and that has a line
unfoldable pub fault_line : List ℕ → Option ℕ
fault_line bytes = line_of_fault (rows_of bytes) (fault_in (rc_meaning bytes))
