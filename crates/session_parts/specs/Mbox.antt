-- What is done to an mboxrd file and to its record.
use Rattle.std.specs.Prelude.{◌≡◌, ◌⊎◌, ◌+◌, ℕ, Bool, false, List, ◌++◌, length, Option, None, Some, Result, Ok, Err}
use Rattle.std.specs.Prelude.{true}
use Rattle.mail_terms.specs.Listing.{Item}
use Rattle.fetch_record.specs.Record.{Row, Intent, Loaded, none_open, marked}
use Rattle.mail_store.specs.{
  FlatFile.{Stored, holding, file_refused, edges_of},
  Mboxrd.{MayGoOn, entry_of},
  MboxCalls.{EntryMayFollow, IsNoMbox, RefusesLook},
  declared.{fault.StoreFault.StoreFault, file.flat_file.Edges.Edges},
}
use Rattle.pop3_wire.specs.{Bodies.Rest, Place.Place}
use Rattle.pop3_client.specs.{Texts.{Fetching, Fetched}, Turns.retr}
use Rattle.session_parts.specs.{
  declared.fault.{Cut.Cut, Fault.{Fault, TheVariants.{StoreRefused, SeenRefused, NoMemory}}},
  declared.fault.Why.TheVariants.{Missing, Refused, NotMbox},
  declared.{readiness.Found.Found, report.ReportLine.ReportLine},
  Fault.Breaks,
  Record.{Saves, TakesBack, intent_at, with_open},
  Target.{is_stored, closed_file, none_held, Kind, Files, Entries, Stores},
  Report.has_deletions,
}
use Rattle.mail_store.specs.declared.fault.StoreFault.TheVariants as refused

-- the fault of a session for a fault of its store
abbrev pub IsStoreFault : StoreFault → Fault → Type 0
IsStoreFault refused.Missing fault = fault ≡ StoreRefused Missing
IsStoreFault refused.Refused fault = fault ≡ StoreRefused Refused
IsStoreFault refused.NotMbox fault = fault ≡ StoreRefused NotMbox
IsStoreFault refused.NoMemory fault = fault ≡ NoMemory

-- the bytes of a file stayed, and a call of it that was refused is counted
abbrev pub LeavesSame : {T : Type 0} → Stored → Result T StoreFault → Stored → Type 0
LeavesSame old (Err refused.Refused) new = new ≡ file_refused old
LeavesSame old result new = new ≡ old

-- ---- before the first text

-- the open intent, if there is one, was settled: whether its entry is whole; there is no file; a call was refused; or
-- memory ran out
abbrev pub SettlesIntent : Option Intent → List Item → Stored → Result Bool Fault → Stored → Type 0
SettlesIntent None items old (Ok whole) new = (whole ≡ false) × (new ≡ old)
SettlesIntent None items old (Err fault) new = ⊥
SettlesIntent (Some intent) items old (Ok whole) new = (was : List ℕ) × (old.content ≡ Some was)
    × (whole ≡ is_stored (Some intent) items was) × (new ≡ holding old (closed_file (Some intent) items was))
SettlesIntent (Some intent) items old (Err (StoreRefused Missing)) new = (old.content ≡ None) × (new ≡ old)
SettlesIntent (Some intent) items old (Err (StoreRefused Refused)) new = (new ≡ file_refused old)
    ⊎ ((was : List ℕ) × (old.content ≡ Some was)
    × (new ≡ file_refused (holding old (closed_file (Some intent) items was))))
SettlesIntent (Some intent) items old (Err NoMemory) new = new ≡ old
SettlesIntent (Some intent) items old (Err _) new = ⊥

-- the file's bytes are as they were, or settled
abbrev pub IsSettledAtMost : Option Intent → List Item → Stored → Stored → Type 0
IsSettledAtMost intent items old new = (new.content ≡ old.content)
    ⊎ ((was : List ℕ) × (old.content ≡ Some was) × (new.content ≡ Some (closed_file intent items was)))

-- the file was settled, and an entry may follow it; there is none; a call was refused; no entry may follow; or memory
-- ran out
abbrev pub AsksMbox : Option Intent → Stored → List Item → Result Found Fault → Stored → Type 0
AsksMbox intent old items (Ok found) new = (was : List ℕ) × (old.content ≡ Some was)
    × (found.stored ≡ is_stored intent items was)
    × (new ≡ holding old (closed_file intent items was)) × MayGoOn (closed_file intent items was)
    × (found.held.items ≡ none_held items) × (found.odd.items ≡ none_held items)
AsksMbox intent old items (Err (StoreRefused Missing)) new = (old.content ≡ None) × (new ≡ old)
AsksMbox intent old items (Err (StoreRefused Refused)) new = (new.failures ≡ old.failures + 1)
    × IsSettledAtMost intent items old new
AsksMbox intent old items (Err (StoreRefused NotMbox)) new = (was : List ℕ) × (old.content ≡ Some was)
    × (MayGoOn (closed_file intent items was) → ⊥) × (new ≡ holding old (closed_file intent items was))
AsksMbox intent old items (Err NoMemory) new = (new.failures ≡ old.failures) × IsSettledAtMost intent items old new
AsksMbox intent old items (Err _) new = ⊥

-- ---- a text

-- a text was read whole; the conversation broke; or memory ran out for it as it came
abbrev pub TakesText : ℕ → Place → Result (List ℕ) Cut → Place → Type 0
TakesText number start (Ok text) new = Fetched (retr number) start text new
TakesText number start (Err cut) new = (cut.rest ≡ None)
    × (Breaks (retr number) start new cut.fault
    ⊎ ((cut.fault ≡ NoMemory) × ((rest : Rest) × (text : List ℕ) × Fetching (retr number) start new rest text)))

-- the intent of appending the entry of a text to these bytes
abbrev pub intent_of : List ℕ → List ℕ → List ℕ → Intent
intent_of bytes uid text = intent_at uid (length bytes) (length (entry_of text))

-- the record says that the entry of this text is about to be appended to the mboxrd file
abbrev pub IsIntended : Stored → Stored → List Row → List ℕ → List ℕ → Stored → Type 0
IsIntended mbox file rows uid text file' = (was : List ℕ) × (mbox.content ≡ Some was)
    × Saves file (none_open rows) (with_open rows (intent_of was uid text)) (Ok tt) file'

-- the same, and the intent was closed again; only if the record's file refused that may it be open
abbrev pub IsTakenBack : Stored → Stored → List Row → List ℕ → List ℕ → Stored → Type 0
IsTakenBack mbox file rows uid text file' = (was : List ℕ) × (mbox.content ≡ Some was) × (mid : Stored)
    × Saves file (none_open rows) (with_open rows (intent_of was uid text)) (Ok tt) mid
    × TakesBack mid (with_open rows (intent_of was uid text)) file'

-- the mboxrd file and the record's after a text wasn't appended: the file isn't there; a call was refused, before the
-- intent was saved, or after it, and the intent was closed again, unless a front of the entry may be there; no entry
-- may follow; the record's file was refused; or memory ran out, for the intent or for the entry
abbrev pub RefusesEntry : Stored → Stored → List Row → List ℕ → List ℕ → Fault → Stored → Stored → Type 0
RefusesEntry mbox file rows uid text (StoreRefused Missing) mbox' file' = (mbox.content ≡ None) × (mbox' ≡ mbox)
    × (file' ≡ file)
RefusesEntry mbox file rows uid text (StoreRefused Refused) mbox' file' =
    ((mbox' ≡ file_refused mbox) × ((file' ≡ file) ⊎ IsTakenBack mbox file rows uid text file'))
    ⊎ (IsIntended mbox file rows uid text file'
    × ((was front rest : List ℕ) × EntryMayFollow mbox.content was × (entry_of text ≡ front ++ rest)
    × (mbox' ≡ file_refused (file_refused (holding mbox (was ++ front))))))
RefusesEntry mbox file rows uid text (StoreRefused NotMbox) mbox' file' = IsNoMbox mbox.content × (mbox' ≡ mbox)
    × IsTakenBack mbox file rows uid text file'
RefusesEntry mbox file rows uid text SeenRefused mbox' file' = (mbox' ≡ mbox)
    × ((was : List ℕ) × (mbox.content ≡ Some was)
    × Saves file (none_open rows) (with_open rows (intent_of was uid text)) (Err SeenRefused) file')
RefusesEntry mbox file rows uid text NoMemory mbox' file' = (mbox' ≡ mbox)
    × ((file' ≡ file) ⊎ IsTakenBack mbox file rows uid text file')
RefusesEntry mbox file rows uid text _ mbox' file' = ⊥

-- the entry of a text was appended to the mboxrd file, and the record has its intent; or it was refused
abbrev pub AppendsText : Stored → Stored → Loaded → List ℕ → List ℕ → Result (Unit {0}) Fault → Stored → Stored
    → Loaded → Type 0
AppendsText mbox file seen uid text (Ok done) mbox' file' seen' = (was : List ℕ) × EntryMayFollow mbox.content was
    × (mbox' ≡ holding mbox (was ++ entry_of text)) × (seen'.intent ≡ Some (intent_of was uid text))
    × Saves file (none_open seen.rows) (with_open seen.rows (intent_of was uid text)) (Ok tt) file'
AppendsText mbox file seen uid text (Err fault) mbox' file' seen' = RefusesEntry mbox file seen.rows uid text
    fault mbox' file'

-- the intent of the entry was saved, and the mark that ends it wasn't
abbrev pub MarksEntry : Stored → Stored → List Row → List ℕ → List ℕ → Fault → Stored → Type 0
MarksEntry mbox file rows uid text fault file' = (was : List ℕ) × (mbox.content ≡ Some was) × (mid : Stored)
    × Saves file (none_open rows) (with_open rows (intent_of was uid text)) (Ok tt) mid
    × Saves mid (with_open rows (intent_of was uid text)) (none_open (marked rows uid)) (Err fault) file'

-- ---- before QUIT

-- an mboxrd file was looked at, and refused: this is the session's fault
abbrev pub RefusesAgain : Stores → Fault → Stores → Type 0
RefusesAgain old fault new = (why : StoreFault) × IsStoreFault why fault × (RefusesLook old.mbox.content why
    × LeavesSame {T = Unit {0}} old.mbox (Err why) new.mbox)

-- if a message was deleted, the device told the size and the ends of an mboxrd file, and an entry may follow it
abbrev pub IsToldOfMbox : Kind → List ReportLine → Stores → Option Edges → Type 0
IsToldOfMbox Files lines store told = Unit {0}
IsToldOfMbox Entries lines store told = has_deletions lines ≡ true
    → (was : List ℕ) × EntryMayFollow store.mbox.content was × (told ≡ Some (edges_of was))

-- it was looked at once more; or it was refused
abbrev pub LooksAgain : Kind → List ReportLine → Stores → Result (Option Edges) Fault → Stores → Type 0
LooksAgain Files lines old (Ok told) new = new ≡ old
LooksAgain Files lines old (Err fault) new = ⊥
LooksAgain Entries lines old (Ok told) new = IsToldOfMbox Entries lines old told × (new ≡ old)
LooksAgain Entries lines old (Err fault) new = (has_deletions lines ≡ true) × RefusesAgain old fault new
    × (new.maildir ≡ old.maildir)

-- whether all went well, whatever was told
abbrev pub went : {A E : Type 0} → Result A E → Result (Unit {0}) E
went (Ok told) = Ok tt
went (Err fault) = Err fault
