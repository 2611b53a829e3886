-- The values of keys that settings don't have.
use Rattle.std.specs.{
  Prelude.{◌&&◌, List, ℕ, Option, Some, None, if◌then◌else◌, bytes_eq},
  List.{filter_map, last_or},
}
use Rattle.rc_file.specs.FileRows.{RcRow, section_row, key_row, bad_row}

-- a row's value, if it is a row of this key of this section
abbrev pub other_at : List ℕ → List ℕ → RcRow → Option (List ℕ)
other_at section key (section_row line name) = None
other_at section key (key_row line within name value) =
    if bytes_eq within section && bytes_eq name key then Some value else None
other_at section key (bad_row line) = None

-- a key's value is that of its last row
unfoldable pub other_value : List ℕ → List ℕ → List RcRow → Option (List ℕ)
other_value section key rows = last_or None (filter_map (other_at section key) rows)
