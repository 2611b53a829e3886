-- What plans keep to.
use Rattle.std.specs.Prelude.{◌≡◌, ◌||◌, not, true, false, List, [], ◌∷◌, ◌++◌}
use Rattle.mail_terms.specs.Listing.{Item, has_item}
use Rattle.rc_file.specs.declared.settings.Settings.{Settings}
use Rattle.fetch_record.specs.Record.{Row, is_delivered}
use Rattle.fetch_rules.specs.{Plan.fetches, declared.plans.Step.Step}

-- each of these steps fetches its message only if no message before it has the same id; `front` are the messages before
-- the first step's
abbrev pub FetchesFirsts : List Item → List Step → List Item → Type 0
FetchesFirsts front [] items = Unit {0}
FetchesFirsts front (step ∷ steps) [] = Unit {0}
FetchesFirsts front (step ∷ steps) (item ∷ items) =
    (fetches step ≡ true → has_item front item.uid ≡ false) × FetchesFirsts (front ++ item ∷ []) steps items

-- each of these steps fetches its message only if all are to be read, or the message isn't recorded as delivered
abbrev pub FetchesAsked : Settings → List Row → List Step → List Item → Type 0
FetchesAsked settings rows [] items = Unit {0}
FetchesAsked settings rows (step ∷ steps) [] = Unit {0}
FetchesAsked settings rows (step ∷ steps) (item ∷ items) =
    (fetches step ≡ true → (settings.read_all || not (is_delivered rows item.uid)) ≡ true)
    × FetchesAsked settings rows steps items
