-- What a run would do with each message of a listing.
use Rattle.std.specs.Prelude.{ℕ, ◌+◌, ◌*◌, ◌==◌, ◌&&◌, not, nat_lt, min, Bool, List, [], ◌∷◌, Option, Some, None}
use Rattle.std.specs.Prelude.{if◌then◌else◌}
use Rattle.mail_terms.specs.{Listing.Item, Numeral.greatest_size}
use Rattle.rc_file.specs.declared.settings.Settings.{Settings}
use Rattle.fetch_record.specs.Record.{Row, is_delivered}
use Rattle.fetch_rules.specs.{Due.seconds_per_day, declared.plans.Step.Step, Plan.{may_be_deleted, seen_since}}
use Rattle.session_parts.specs.declared.message_preview.MessagePreview.{MessagePreview}

-- whether the age of a message decides if it is deleted
abbrev pub waits : Settings → Step → Bool → Bool
waits settings step delivered = not settings.delete
    && (not (settings.delete_after == 0) && may_be_deleted delivered step.skip)

-- from when on a message first seen at `since` is deleted, as far as 64 bits go: the last second is the greatest size
abbrev pub due_second : Settings → ℕ → ℕ
due_second settings since = min (since + min (seconds_per_day * settings.delete_after) greatest_size) greatest_size

-- when a message of this id is old enough to be deleted, if it isn't yet
abbrev pub due_of : Settings → List Row → ℕ → Step → List ℕ → Option ℕ
due_of settings rows now step uid =
    let due = due_second settings (seen_since rows uid now) in
    if waits settings step (is_delivered rows uid) && nat_lt now due then Some due else None

-- what a preview says of one message
abbrev pub message_preview_of : Settings → List Row → ℕ → Step → Item → Bool → MessagePreview
message_preview_of settings rows now step item held = record {
  step = step;
  size = item.size;
  held = held;
  due = due_of settings rows now step item.uid;
}

-- what a preview says of each message, by its step
abbrev pub message_previews : Settings → List Row → ℕ → List Step → List Item → List Bool → List MessagePreview
message_previews settings rows now [] items flags = []
message_previews settings rows now (step ∷ steps) [] flags = []
message_previews settings rows now (step ∷ steps) (item ∷ items) [] = []
message_previews settings rows now (step ∷ steps) (item ∷ items) (held ∷ flags) =
    message_preview_of settings rows now step item held ∷ message_previews settings rows now steps items flags
