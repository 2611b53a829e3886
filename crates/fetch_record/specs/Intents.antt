-- An intent: what was about to be appended to an mboxrd file when the record's file was last saved.
use Rattle.std.specs.Prelude.{◌≡◌, ◌||◌, true, false, option_map, ℕ, Bool, List, Option, Some, None, if◌then◌else◌}
use Rattle.fetch_record.specs.{
  Record.{Row, Intent, Loaded, marked},
  RecordFile.{Version, One, Two},
  RecordMeaning.{Means, Rows},
  Outgrown.IsOutgrown,
  declared.seen.OwnedIntent.OwnedIntent,
}

abbrev pub intent_from : OwnedIntent → Intent
intent_from open' = record { uid = open'.uid.items; start = open'.start; len = open'.len }

abbrev pub intent_in : Option OwnedIntent → Option Intent
intent_in open' = option_map intent_from open'

abbrev pub has_intent : {X : Type 0} → Option X → Bool
has_intent None = false
has_intent (Some intent) = true

abbrev pub is_older : Version → Bool
is_older One = true
is_older Two = false

-- the record that bytes stand for was read; its file must be written anew if it is of version 1, torn, has an
-- open intent, or is outgrown
pub record ReadAs (bytes : List ℕ) (loaded : Loaded) : Type 0 where
  pub version : Version
  pub torn : Bool
  pub means : Means bytes (Rows version loaded.rows loaded.intent torn)
  pub outgrown : Bool
  pub grown : IsOutgrown bytes outgrown
  pub stale : loaded.stale ≡ (is_older version || (torn || (has_intent loaded.intent || outgrown)))

-- the rows once the open intent is ended, whole or not
abbrev pub closed_rows : Bool → List Row → Option Intent → List Row
closed_rows whole rows None = rows
closed_rows whole rows (Some intent) = if whole then marked rows intent.uid else rows

-- no intent is open, or that of this id
abbrev pub IsNoneOrOf : List ℕ → Option Intent → Type 0
IsNoneOrOf uid None = Unit {0}
IsNoneOrOf uid (Some intent) = intent.uid ≡ uid
