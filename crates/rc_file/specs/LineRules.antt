-- What each line of an rc file is, whatever its place.
use Rattle.std.specs.{
  Prelude.{ℕ, Bool, not, ◌&&◌, ◌||◌, List, ◌-◌, length, take, drop, map, ◌==◌, nat_lt, slice_index, if◌then◌else◌},
  List.{prefix_len, suffix_len, position_or_len, before_first, after_first},
  Str.is_utf8,
}
use Rattle.bstr.specs.Text.{lines_of, without_terminator}

-- the lines of a file: each ends at LF, and one CR before the LF is dropped; a last line without LF counts
abbrev pub file_lines : List ℕ → List (List ℕ)
file_lines bytes = map without_terminator (lines_of bytes)

-- a space or a tab
abbrev pub is_blank : ℕ → Bool
is_blank byte = byte == 32 || byte == 9

-- the bytes without the blanks in front
abbrev pub past_blanks : List ℕ → List ℕ
past_blanks bytes = drop (prefix_len is_blank bytes) bytes

-- the bytes without the blanks at the end
abbrev pub before_blanks : List ℕ → List ℕ
before_blanks bytes = take (length bytes - suffix_len is_blank bytes) bytes

-- the bytes without the blanks at both ends
abbrev pub without_blanks : List ℕ → List ℕ
without_blanks bytes = before_blanks (past_blanks bytes)

-- '=' or ':', which ends the key of a key line
abbrev pub is_sign : ℕ → Bool
is_sign byte = byte == 61 || byte == 58

-- '#' or ';', which begins a comment
abbrev pub is_comment_sign : ℕ → Bool
is_comment_sign byte = byte == 35 || byte == 59

-- a line, by the rule that fits it
pub data RcLine : Type 0 where
  skipped : RcLine
  more : List ℕ → RcLine
  section : List ℕ → RcLine
  key : List ℕ → List ℕ → RcLine
  bad : RcLine

-- empty, only blanks, or a comment
abbrev pub is_skipped : List ℕ → Bool
is_skipped line = length (past_blanks line) == 0 || is_comment_sign (slice_index (past_blanks line) 0)

-- a line that begins with '[', without blanks at its end: it ends in ']' with a character or more between
abbrev pub section_line : List ℕ → RcLine
section_line line =
    if nat_lt 2 (length line) && slice_index line (length line - 1) == 93
    then section (take (length line - 2) (drop 1 line)) else bad

-- the key comes before the first sign and the value after it
abbrev pub key_line : List ℕ → RcLine
key_line line =
    if nat_lt (position_or_len is_sign line) (length line) && nat_lt 0
    (length (without_blanks (before_first is_sign line)))
    then key (without_blanks (before_first is_sign line)) (without_blanks (after_first is_sign line)) else bad

-- a line is judged by the first of five rules that fits it
unfoldable pub judge : List ℕ → RcLine
judge line =
    if not (is_utf8 line) then bad else
    if is_skipped line then skipped else
    if is_blank (slice_index line 0) then more (without_blanks line) else
    if slice_index line 0 == 91 then section_line (before_blanks line) else
    key_line line
