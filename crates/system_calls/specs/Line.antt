-- The lines of a trace.
use Rattle.std.specs.{
  Prelude.{◌≡◌, ◌↔◌, ◌==◌, ◌&&◌, ◌||◌, ℕ, Bool, false, not, nat_le, nat_lt, List, [], ◌∷◌, ◌++◌, IsTrue, Option, codes},
  Prelude.if◌then◌else◌,
  List.{flat_map, list_any},
  Int.is_in_range,
  Str.{IsUtf8, chars},
  Io.KnownBytes.Appends,
}
use Rattle.hex.specs.Hex.{encode_lower}

-- a character that changes how a line is shown: one that controls, reverses, divides or joins others, or isn't seen
-- (in Unicode: Cc, Bidi_Control, Default_Ignorable_Code_Point, U+2028 and U+2029); and all from U+0080 to U+00BF
abbrev pub changes_lines : ℕ → Bool
changes_lines letter =
    is_in_range 0x80 0xBF letter || letter == 0x34F || letter == 0x61C || is_in_range 0x115F 0x1160 letter
    || is_in_range 0x17B4 0x17B5 letter || is_in_range 0x180B 0x180F letter || is_in_range 0x200B 0x200F letter
    || is_in_range 0x2028 0x202E letter || is_in_range 0x2060 0x206F letter || letter == 0x3164
    || is_in_range 0xFE00 0xFE0F letter || letter == 0xFEFF || letter == 0xFFA0 || is_in_range 0xFFF0 0xFFFB letter
    || is_in_range 0x1BCA0 0x1BCA3 letter || is_in_range 0x1D173 0x1D17A letter || is_in_range 0xE0000 0xE0FFF letter

-- UTF-8 with no such character
abbrev pub IsShowable : List ℕ → Type 0
IsShowable octets = IsUtf8 octets × (list_any changes_lines (chars octets) ≡ false)

-- printable ASCII except the backslash
abbrev pub is_shown_plain : ℕ → Bool
is_shown_plain octet = nat_le 32 octet && (nat_lt octet 127 && not (octet == 92))

-- an octet as a line shows it: as it is, or as `\x` and two digits
unfoldable pub shown_octet : Bool → ℕ → List ℕ
shown_octet wide octet =
    if is_shown_plain octet || (wide && nat_le 128 octet) then octet ∷ []
    else codes "\\x" ++ encode_lower (octet ∷ [])

-- a line shows a mark and octets, those above ASCII as they are only if all together may be shown so
abbrev pub IsTraceLine : List ℕ → List ℕ → List ℕ → Type 0
IsTraceLine mark octets line = (wide : Bool) × (IsTrue wide ↔ IsShowable octets)
    × (line ≡ mark ++ (flat_map (shown_octet wide) octets ++ codes "\n"))

-- such a line was written after what the writer held
abbrev pub HasTraceLine : {E : Type 0} → (E → Option (List ℕ)) → E → E → List ℕ → List ℕ → Type 0
HasTraceLine contents old new mark octets = (line : List ℕ) × IsTraceLine mark octets line
    × Appends (contents old) (contents new) line

-- the line of a refused call was written: its name, what it was asked for, and a reason
abbrev pub TellsRefusal : {E : Type 0} → (E → Option (List ℕ)) → E → E → List ℕ → List ℕ → Type 0
TellsRefusal contents old new call path =
    (reason : List ℕ) × HasTraceLine contents old new (codes "trace: ")
    (call ++ (codes " " ++ (path ++ (codes ": " ++ reason))))

-- a text has the path of what was refused, and a reason, as a line shows them
abbrev pub IsRefusalText : List ℕ → List ℕ → Type 0
IsRefusalText path text = (reason : List ℕ) × IsTraceLine [] (path ++ (codes ": " ++ reason)) (text ++ codes "\n")
