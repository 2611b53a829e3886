-- What is done with each message of a listing.
use Rattle.std.specs.Prelude.{◌≡◌, ℕ, Bool, true, false, not, ◌&&◌, ◌||◌, List, map, filter, zip, unwrap_or, Option}
use Rattle.std.specs.Prelude.{Some, is_none}
use Rattle.mail_terms.specs.Listing.{Item, numbered, is_first, is_last}
use Rattle.fetch_record.specs.Record.{Row, is_delivered, first_seen_of}
use Rattle.fetch_rules.specs.{
  Wanted.skip_of,
  Due.is_due,
  declared.plans.{Skip.{Skip, TheVariants.Obstructed}, Step.Step},
}
use Rattle.rc_file.specs.declared.settings.Settings.{Settings}

-- when the id was first seen: now, if it has no row
abbrev pub seen_since : List Row → List ℕ → ℕ → ℕ
seen_since rows uid now = unwrap_or (first_seen_of rows uid) now

-- whether a message is passed over because what can't be opened bears its name
abbrev pub is_for_odd : Option Skip → Bool
is_for_odd (Some Obstructed) = true
is_for_odd _ = false

-- whether a message that is passed over for this reason, or fetched, may be deleted once it is due: it is known to be
-- delivered or is fetched, and isn't obstructed
abbrev pub may_be_deleted : Bool → Option Skip → Bool
may_be_deleted delivered skip = (delivered || is_none skip) && not (is_for_odd skip)

-- whether a message is deleted: it is due and may be deleted, and no other message has its id
abbrev pub is_deleted : Settings → List Row → List Item → ℕ → Option Skip → ℕ × Item → Bool
is_deleted settings rows listing now skip message =
    is_due settings now (seen_since rows message.1.uid now) && may_be_deleted (is_delivered rows message.1.uid) skip
    && (is_first listing message && is_last listing message)

abbrev pub step_of : Settings → (List ℕ → Bool) → List Row → List Item → ℕ → ℕ × Item → Step
step_of settings is_odd rows listing now message =
    let skip = skip_of settings is_odd rows listing message in
    record {
      number = message.0;
      skip = skip;
      delete = is_deleted settings rows listing now skip message;
    }

-- whether a step fetches its message
abbrev pub fetches : Step → Bool
fetches step = is_none step.skip

-- the steps, one for each message, in order
abbrev pub planned : Settings → (List ℕ → Bool) → List Row → List Item → ℕ → List Step
planned settings is_odd rows listing now = map (step_of settings is_odd rows listing now) (numbered listing)

-- a step neither fetches nor deletes
abbrev pub IsQuiet : Step → Type 0
IsQuiet step = (fetches step ≡ false) × (step.delete ≡ false)

-- the messages that steps fetch, in order
abbrev pub retrieved : List Step → List Item → List (ℕ × Item)
retrieved steps listing = map (λ pair. pair.1) (filter (λ pair. fetches pair.0) (zip steps (numbered listing)))
