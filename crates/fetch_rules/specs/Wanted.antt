-- Which messages of a listing are fetched, and why the others aren't.
use Rattle.std.specs.{
  Prelude.{◌≡◌, ℕ, Bool, false, not, ◌&&◌, ◌||◌, ◌==◌, ◌-◌, nat_le, List, length, map, take, filter, Option, Some},
  Prelude.{None, is_none, if◌then◌else◌},
  Option.option_or,
}
use Rattle.mail_terms.specs.Listing.{Item, HasDistinctIds, numbered, is_first}
use Rattle.fetch_record.specs.Record.{Row, is_delivered}
use Rattle.rc_file.specs.declared.settings.Settings.{Settings}
use Rattle.fetch_rules.specs.declared.plans.Skip.{Skip}
use Rattle.fetch_rules.specs.declared.plans.Skip.TheVariants.{Delivered, Obstructed, TooLarge, PastLimit, SameId}

-- whether a size is within the limit; 0 sets none
abbrev pub is_within : ℕ → ℕ → Bool
is_within limit size = limit == 0 || nat_le size limit

-- whether the limit on a message's size lets one of this size be fetched
abbrev pub allows_size : Settings → ℕ → Bool
allows_size settings size = is_within settings.max_size size

-- whether a session that may fetch so many messages fetches none after them; 0 sets no limit
abbrev pub is_full : Settings → ℕ → Bool
is_full settings count = not (settings.max_count == 0) && nat_le settings.max_count count

-- how many of so many messages a limit on their number leaves, or more; 0 sets none
abbrev pub limit_or_all : ℕ → ℕ → ℕ
limit_or_all limit count = if limit == 0 then count else limit

-- how many of messages of these listed sizes a session fetches if it may fetch all, or more
abbrev pub fitting : Settings → List ℕ → ℕ
fitting settings sizes = limit_or_all settings.max_count (length sizes)

-- the first of a list of messages, as many as a session fetches if it may fetch all
abbrev pub at_most : {X : Type 0} → Settings → (X → ℕ) → List X → List X
at_most settings size messages = take (fitting settings (map size messages)) messages

-- why a message of this id and size isn't fetched, whatever comes before it, if there is a reason and such ids are
-- known to be delivered; these are fetched if all are to be read. It may be that what can't be opened bears its name
abbrev pub own_skip : Settings → Bool → (List ℕ → Bool) → List ℕ → ℕ → Option Skip
own_skip settings odd is_known uid size =
    if not settings.read_all && is_known uid then Some Delivered else if odd then Some Obstructed
    else if not (allows_size settings size) then Some TooLarge
    else None

-- why a message isn't fetched, if there is a reason, by whether it is the first with its id, and whether a session is
-- full before it
abbrev pub skip_for : Settings → (List ℕ → Bool) → List Row → Bool → Bool → Item → Option Skip
skip_for settings is_odd rows first full item = option_or
    (own_skip settings (is_odd item.uid) (is_delivered rows) item.uid item.size)
    (if full then Some PastLimit else if first then None else Some SameId)

-- the message may be fetched, unless a session is full before it
abbrev pub is_candidate : Settings → (List ℕ → Bool) → List Row → List Item → ℕ × Item → Bool
is_candidate settings is_odd rows listing message =
    is_none (own_skip settings (is_odd message.1.uid) (is_delivered rows) message.1.uid message.1.size)
    && is_first listing message

-- why a message isn't fetched, if there is a reason
abbrev pub skip_of : Settings → (List ℕ → Bool) → List Row → List Item → ℕ × Item → Option Skip
skip_of settings is_odd rows listing message = skip_for settings is_odd rows (is_first listing message)
    (is_full settings
    (length (filter (is_candidate settings is_odd rows listing) (take (message.0 - 1) (numbered listing))))) message.1

-- the messages that are fetched
abbrev pub wanted : Settings → (List ℕ → Bool) → List Row → List Item → List (ℕ × Item)
wanted settings is_odd rows listing =
    filter (λ message. is_none (skip_of settings is_odd rows listing message)) (numbered listing)

-- a law: if no id occurs twice, they are the first of those that have no reason of their own
abbrev pub WantedAreFirst : Type 0
WantedAreFirst = (settings : Settings) (is_odd : List ℕ → Bool) (rows : List Row) (listing : List Item)
    → HasDistinctIds listing
    → wanted settings is_odd rows listing ≡ at_most settings (λ message. message.1.size) (filter (λ message.
    is_none (own_skip settings (is_odd message.1.uid) (is_delivered rows) message.1.uid message.1.size))
    (numbered listing))

-- of no id what can't be opened bears a name
abbrev pub none_odd : List ℕ → Bool
none_odd uid = false
