-- What a loss of power leaves of a group or an intent that was appended to a record's file.
use Rattle.std.specs.Prelude.{◌≡◌, ◌≢◌, ◌⊎◌, ℕ, ◌==◌, List, [], ◌∷◌, ◌++◌, Bool, true, false, not, if◌then◌else◌}
use Rattle.std.specs.Prelude.{Option}
use Rattle.fetch_record.specs.{
  Record.{Row, Intent},
  RecordFile.Two,
  RecordGrowth.Grows,
  declared.seen.SeenFault.TheVariants.BadRow,
  RecordMeaning.{Rows, Fault, Means, has_bytes, has_line_feed},
}

-- at most as many bytes as were appended, each as it was, or zero
abbrev pub IsPartOf : List ℕ → List ℕ → Type 0
IsPartOf added [] = Unit {0}
IsPartOf [] (byte ∷ left) = ⊥
IsPartOf (word ∷ added) (byte ∷ left) = ((byte ≡ word) ⊎ (byte ≡ 0)) × IsPartOf added left

-- no line ends behind a zero
abbrev pub ends_at_zero : List ℕ → Bool
ends_at_zero [] = true
ends_at_zero (byte ∷ left) = if byte == 0 then not (has_line_feed left) else ends_at_zero left

-- a law: what is left there of a group or an intent, and isn't all of it, counts for nothing; but if a line ends behind
-- a zero in it, the bytes stand for no record
abbrev pub TornIsIgnoredOrSeen : Type 0
TornIsIgnoredOrSeen = (bytes added left : List ℕ) (old new : List Row) (before after : Option Intent)
    → bytes ≢ [] → Means bytes (Rows Two old before false) → Grows old before added new after → IsPartOf added left
    → left ≢ added
    → (ends_at_zero left ≡ true → Means (bytes ++ left) (Rows Two old before (has_bytes left)))
    × (ends_at_zero left ≡ false → (line : ℕ) × Means (bytes ++ left) (Fault (BadRow line)))
