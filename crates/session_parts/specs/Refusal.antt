-- How much a session takes from its link, and how many calls of it are refused.
use Rattle.std.specs.Prelude.{◌≡◌, ◌⊎◌, None, Result, Ok, Err, ◌≤◌, ◌+◌, ◌*◌, ℕ, List, ◌++◌, length, Option, Some}
use Rattle.mail_terms.specs.{FailureCount.counted_up, Listing.message_limit}
use Rattle.pop3_wire.specs.{declared.wire.Wire.Ghosts as WireGhosts, Link.Link, Bodies.Rest, Place.Place}
use Rattle.session_parts.specs.{
  declared.{fault.Cut.Cut, report.{Outcome.{Outcome, TheVariants.{Ended, Cut as WasCut}}, Report.Report}},
  declared.tail.Tail.TheVariants.Nothing,
  Tail.{tail, turns_of_tail},
}
use Rattle.pop3_client.specs.{Turns.{line_limit, text_limit, most, retr}, Conversation.most_of, Texts.Fetching}

-- the most octets that a session of this many messages takes: first lines, two listings, and a text for each message
abbrev pub session_limit : ℕ → ℕ
session_limit messages = line_limit * (2 * messages + 10) + 2 * (line_limit * (message_limit + 1))
    + messages * text_limit

-- at most `most` octets were got between these two
abbrev pub GotAtMost : ℕ → Link → Link → Type 0
GotAtMost most old new = (gained : List ℕ) × (new.got ≡ old.got ++ gained) × (length gained ≤ most)

-- ---- the parts of a session

-- for what is done with a message: RETR's first line, the text, and DELE's first line
abbrev pub step_limit : ℕ
step_limit = 2 * line_limit + text_limit

-- for logging in, STAT and the two listings
abbrev pub opening_limit : ℕ
opening_limit = 6 * line_limit + 2 * (line_limit * (message_limit + 1))

-- for the planned QUIT, or for what is said after a fault
abbrev pub tail_limit : ℕ
tail_limit = 2 * line_limit

-- for all that follows a listing of so many messages; and for the opening before it too
abbrev pub listed_limit : ℕ → ℕ
listed_limit messages = messages * step_limit + tail_limit

abbrev pub parts_limit : ℕ → ℕ
parts_limit messages = opening_limit + listed_limit messages

-- at most `limit` octets were used of what waited and was got
pub record Took (limit : ℕ) (old new : Place) : Type 0 where
  pub gained : List ℕ
  pub got : new.link.got ≡ old.link.got ++ gained
  pub within : length old.waiting + length gained ≤ limit + length new.waiting

-- a text is under way, or at its end: what was used before it was asked for, and the most of its reply, are within the
-- limit together
pub record TookSoFar (limit : ℕ) (old new : Place) (rest : Rest) : Type 0 where
  pub before : ℕ
  pub number : ℕ
  pub start : Place
  pub text : List ℕ
  pub took : Took before old start
  pub fetching : Fetching (retr number) start new rest text
  pub within : before + most (retr number) ≤ limit

abbrev pub TookBefore : ℕ → Place → Option Rest → Place → Type 0
TookBefore limit old None new = Took limit old new
TookBefore limit old (Some rest) new = TookSoFar limit old new rest

-- a part of a session, well or cut: it takes at most `limit`, even with what is left of a reply under way
abbrev pub TookTillCut : ℕ → Place → Result (Unit {0}) Cut → Place → Type 0
TookTillCut limit old (Ok done) new = Took limit old new
TookTillCut limit old (Err cut) new = TookBefore limit old cut.rest new

-- the same, even with the turns of the tail after the fault
abbrev pub TookWithTail : ℕ → Place → Result (Unit {0}) Cut → Place → Type 0
TookWithTail limit old (Ok done) new = Took limit old new
TookWithTail limit old (Err cut) new = (before : ℕ) × TookBefore before old cut.rest new
    × (before + most_of (turns_of_tail (tail cut.fault)) ≤ limit)

-- none, as far as the count shows
abbrev pub RefusesNone : Link → Link → Type 0
RefusesNone old new = new.failures ≡ old.failures

-- none, or one
abbrev pub RefusesAtMostOne : Link → Link → Type 0
RefusesAtMostOne old new = RefusesNone old new ⊎ (new.failures ≡ counted_up old.failures)

-- none, or one if this cut leaves the link alone from then on
abbrev pub RefusesBefore : Link → Cut → Link → Type 0
RefusesBefore old cut new = RefusesNone old new ⊎ ((new.failures ≡ counted_up old.failures) × (cut.rest ≡ None)
    × (tail cut.fault ≡ Nothing))

-- a part of a session
abbrev pub RefusesTillCut : {A : Type 0} → Link → Result A Cut → Link → Type 0
RefusesTillCut old (Ok done) new = RefusesNone old new
RefusesTillCut old (Err cut) new = RefusesBefore old cut new

-- a whole session
abbrev pub RefusesByOutcome : Link → Outcome → Link → Type 0
RefusesByOutcome old Ended new = RefusesNone old new
RefusesByOutcome old (WasCut fault) new = RefusesAtMostOne old new

-- a whole session refused no more calls of the link than that, and took no more octets from it than its limit
abbrev pub IsWithinLimits : {W : Type 0} → WireGhosts W → W → Report → W → Type 0
IsWithinLimits link old report new = RefusesByOutcome (link.history old) report.outcome (link.history new)
    × (link.sound new → GotAtMost (session_limit report.total) (link.history old) (link.history new))
