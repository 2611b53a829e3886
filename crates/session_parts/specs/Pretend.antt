-- A session that tells what a run would do, and changes nothing.
use Rattle.std.specs.Prelude.{◌≡◌, ◌⊎◌, ℕ, Bool, false, List, [], ◌∷◌, length, Option, None, Some, Result, Ok, Err, Vec}
use Rattle.mail_terms.specs.Listing.{Item}
use Rattle.pop3_wire.specs.{Link.Link, Place.{Place, at}}
use Rattle.pop3_client.specs.{Conversation.Talks, Turns.quit, declared.fault.ClientFault.ClientFault}
use Rattle.rc_file.specs.declared.settings.Settings.{Settings}
use Rattle.fetch_record.specs.Record.{Row, Intent, RecordState}
use Rattle.fetch_rules.specs.Plan.{planned}
use Rattle.mail_store.specs.{
  FlatFile.{Stored, file_refused},
  Maildir.Maildir,
  Mboxrd.MayGoOn,
  Held.{flags_of, odd_flags},
}
use Rattle.session_parts.specs.{
  declared.fault.{Cut.Cut, Fault.{Fault, TheVariants.{NoMemory, StoreRefused}}},
  declared.fault.Why.TheVariants.{Missing, NotMbox, Refused},
  declared.{readiness.Found.Found, preview.Preview.Preview, message_preview.MessagePreview.MessagePreview},
  Mbox.AsksMbox,
  Fault.{cut_of, fault_of},
  MessagePreview.message_previews,
  Record.Keeps,
  Readiness.{CausesUnready, FindsRefused, SettlesStore, merged_in},
  Session.{Keeping, Enters_with, LeavesLink, outcome_of},
  Target.{Target, AsFiles, AsEntries, Stores, closed_file, held_flags, is_stored, odd_in},
}

-- ---- nothing changes

-- the same Maildir with another count of refused calls
abbrev pub counted_as : ℕ → Maildir → Maildir
counted_as failures maildir = record maildir { failures = failures }

-- a store holds what it held
abbrev pub HoldsTheSame : Target → Stores → Stores → Type 0
HoldsTheSame (AsFiles account) old new = counted_as old.maildir.failures new.maildir ≡ old.maildir
HoldsTheSame AsEntries old new = new.mbox.content ≡ old.mbox.content

-- the store and the record's file are as they were, except for the counts of their refused calls
abbrev pub IsUntouched : Target → Keeping → Keeping → Type 0
IsUntouched target old new = HoldsTheSame target old.store new.store × (new.file.content ≡ old.file.content)

-- ---- what the store holds

-- whether the open intent's entry is whole in an mboxrd file, and an entry may follow once that is settled; or why not.
-- The file was only looked at
abbrev pub JudgesMbox : Option Intent → List Item → Stored → Result Bool Fault → Stored → Type 0
JudgesMbox intent items old (Ok whole) new = ((was : List ℕ) × (old.content ≡ Some was)
    × (whole ≡ is_stored intent items was) × MayGoOn (closed_file intent items was)) × (new ≡ old)
JudgesMbox intent items old (Err (StoreRefused Missing)) new = (old.content ≡ None) × (new ≡ old)
JudgesMbox intent items old (Err (StoreRefused Refused)) new = new ≡ file_refused old
JudgesMbox intent items old (Err (StoreRefused NotMbox)) new = ((was : List ℕ) × (old.content ≡ Some was)
    × (MayGoOn (closed_file intent items was) → ⊥)) × (new ≡ old)
JudgesMbox intent items old (Err NoMemory) new = new ≡ old
JudgesMbox intent items old (Err _) new = ⊥

-- what a session would find in an mboxrd file, and what it would leave of it; but it was only looked at
pub record LooksAtMbox (intent : Option Intent) (old : Stored) (items : List Item) (result : Result Found Fault)
    (new : Stored) : Type 0 where
  pub left : Stored
  pub asks : AsksMbox intent old items result left
  pub same : new.content ≡ old.content
  pub count : left.failures ≡ new.failures

abbrev pub LooksIn : Target → Option Intent → Stores → List Item → Result Found Fault → Stores → Type 0
LooksIn (AsFiles account) intent old items (Ok found) new = (found.held.items ≡ flags_of account old.maildir items)
    × (found.stored ≡ false) × (new ≡ old) × (found.odd.items ≡ odd_flags account old.maildir items)
LooksIn (AsFiles account) intent old items (Err fault) new = FindsRefused old.maildir fault new.maildir
LooksIn AsEntries intent old items result new = LooksAtMbox intent old.mbox items result new.mbox

-- ---- what a preview says

-- what a preview says of a listing once the record has these rows
abbrev pub previews_of : Settings → (List ℕ → Bool) → List Row → List Item → List Bool → ℕ → List MessagePreview
previews_of settings is_odd rows items flags now = message_previews settings rows now
    (planned settings is_odd rows items now) items flags

-- the record's file stands for a record; with what a session would find in the store, and settle there, it gives this
-- preview of the listing
pub record PreviewsMerged (settings : Settings) (target : Target) (items : List Item) (now : ℕ) (old : Keeping)
    (told : List MessagePreview) : Type 0 where
  pub was : RecordState
  pub stood : Keeps old.file.content was
  pub left : Stores
  pub settles : SettlesStore target was items old.store left
  pub told_is : told ≡ previews_of settings (odd_in target old.store) (merged_in target old.store was items now) items
      (held_flags target old.store items) now

-- a session with this listing wouldn't be ready, for this reason; of an mboxrd file it may leave something else
pub record WouldBeUnready (target : Target) (items : List Item) (fault : Fault) (store : Stores) (file : Stored)
    (store' : Stores) (file' : Stored) : Type 0 where
  pub left : Stores
  pub cause : CausesUnready target items fault store file left file'
  pub maildir : left.maildir ≡ store'.maildir
  pub count : left.mbox.failures ≡ store'.mbox.failures

-- this is the preview; or a session wouldn't be ready, for this reason; and nothing changed
abbrev pub PreviewsWork : {Z : Type 0} → Settings → Target → List Item → ℕ → Keeping
    → Result (Vec MessagePreview Z) Fault → Keeping → Type 0
PreviewsWork settings target items now old (Ok told) new = PreviewsMerged settings target items now old told.items
    × IsUntouched target old new
PreviewsWork settings target items now old (Err fault) new = WouldBeUnready target items fault old.store old.file
    new.store new.file
    × IsUntouched target old new

-- ---- the session

-- how many messages are listed, and what a run would do with each
pub record PreviewTold : Type 0 where
  pub total : ℕ
  pub message_previews : List MessagePreview

abbrev pub preview_told : Preview → PreviewTold
preview_told preview = record {
  total = preview.total;
  message_previews = preview.message_previews.items;
}

abbrev pub told_nothing : ℕ → PreviewTold
told_nothing total = record { total = total; message_previews = [] }

-- logging in or asking for the listings stopped
pub record NotListed (settings : Settings) (old : Place) (cut : Cut) (new : Place) (told : PreviewTold) : Type 0 where
  pub why : ClientFault
  pub is : cut ≡ cut_of (fault_of why) None
  pub enters : Enters_with settings old (Err why) new
  pub nothing : told ≡ told_nothing 0

-- the listing is known, and a session wouldn't be ready for it
pub record NotReady (settings : Settings) (target : Target) (old : Place) (before : Keeping) (cut : Cut) (new : Place)
    (after : Keeping)
    (told : PreviewTold) : Type 0 where
  pub items : List Item
  pub fault : Fault
  pub is : cut ≡ cut_of fault None
  pub enters : Enters_with settings old (Ok items) new
  pub cause : WouldBeUnready target items fault before.store before.file after.store after.file
  pub nothing : told ≡ told_nothing (length items)

-- the preview says what would be done with the listed messages, and QUIT was sent
pub record ListedAndTold (settings : Settings) (target : Target) (now : ℕ) (old : Place) (before : Keeping)
    (result : Result (Unit {0}) ClientFault) (new : Place) (told : PreviewTold) : Type 0 where
  pub items : List Item
  pub mid : Place
  pub enters : Enters_with settings old (Ok items) mid
  pub total : told.total ≡ length items
  pub previews : PreviewsMerged settings target items now before told.message_previews
  pub quits : Talks (quit ∷ []) mid result new

-- the session came to its end, or stopped
abbrev pub EndsOrStops : Settings → Target → ℕ → Place → Keeping → Result (Unit {0}) Cut → Place → Keeping
    → PreviewTold → Type 0
EndsOrStops settings target now old before (Ok done) new after told = ListedAndTold settings target now old before
    (Ok done) new told
EndsOrStops settings target now old before (Err cut) new after told = NotListed settings old cut new told
    ⊎ (NotReady settings target old before cut new after told
    ⊎ ((why : ClientFault) × (cut ≡ cut_of (fault_of why) None)
    × ListedAndTold settings target now old before (Err why) new told))

abbrev pub PreviewsSession : Settings → Target → ℕ → Place → Keeping → Result (Unit {0}) Cut → Place → Keeping
    → PreviewTold → Type 0
PreviewsSession settings target now old before result new after told =
    EndsOrStops settings target now old before result new after told × IsUntouched target before after

-- a whole session, from a link with nothing waiting to be used: it sends the beginning of a session, then QUIT, or
-- after a fault what a session says after it
pub record Pretends (settings : Settings) (target : Target) (now : ℕ) (link : Link) (before : Keeping)
    (preview : Preview) (link' : Link)
    (after : Keeping) : Type 0 where
  pub result : Result (Unit {0}) Cut
  pub mid : Place
  pub ends : EndsOrStops settings target now (at link []) before result mid after (preview_told preview)
  pub leaves : LeavesLink result mid link'
  pub outcome : preview.outcome ≡ outcome_of result
  pub untouched : IsUntouched target before after
