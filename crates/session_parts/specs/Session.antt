-- A whole session: how far it got, what it said at its end, and what it reports.
use Rattle.std.specs.{Prelude.{◌≡◌, ◌⊎◌, ℕ, List, [], length, None, Result, Ok, Err}, String.string_bytes}
use Rattle.pop3_wire.specs.{Link.Link, Place.{Place, at}}
use Rattle.mail_terms.specs.Listing.{Item}
use Rattle.rc_file.specs.declared.settings.Settings.{Settings}
use Rattle.mail_store.specs.{Maildir.Maildir, FlatFile.Stored}
use Rattle.pop3_client.specs.declared.fault.ClientFault.{ClientFault}
use Rattle.session_parts.specs.{
  declared.fault.{Fault.TheVariants.NoMemory, Cut.Cut},
  declared.report.{Outcome.{Outcome, TheVariants.{Ended, Cut as WasCut}}, Report.Report, ReportLine.ReportLine},
  declared.report.Skips.Skips,
  Opening.Enters,
  Fault.{cut_of, fault_of},
  CarryingOut.Carries,
  Tail.TalksTail,
  Report.{Reports, none_skipped},
  Target.{Target, AsFiles, AsEntries, Stores, in_maildir, in_mbox},
}

-- what a session noted: how many messages were listed, how many its plan passes over, and what was done
pub record Noted : Type 0 where
  pub total : ℕ
  pub skipped : Skips
  pub lines : List ReportLine

abbrev pub noted : ℕ → Skips → List ReportLine → Noted
noted total skipped lines = record { total = total; skipped = skipped; lines = lines }

-- what the store holds, and the record's file
pub record Keeping : Type 0 where
  pub store : Stores
  pub file : Stored

abbrev pub keeping : Stores → Stored → Keeping
keeping store file = record { store = store; file = file }

-- a Maildir and the record's file
pub record AccountFiles : Type 0 where
  pub maildir : Maildir
  pub file : Stored

abbrev pub account_files : Maildir → Stored → AccountFiles
account_files maildir file = record { maildir = maildir; file = file }

abbrev pub keeps_files : AccountFiles → Keeping
keeps_files account = keeping (in_maildir account.maildir) account.file

abbrev pub Enters_with : Settings → Place → Result (List Item) ClientFault → Place → Type 0
Enters_with settings old result new = Enters (string_bytes settings.username)
    (string_bytes settings.password) old result new

-- the conversation stopped before a listing was known: nothing was stored
pub record NotEntered (settings : Settings) (old : Place) (before : Keeping) (cut : Cut) (new : Place) (after : Keeping)
    (notes : Noted) : Type 0 where
  pub why : ClientFault
  pub is : cut ≡ cut_of (fault_of why) None
  pub enters : Enters_with settings old (Err why) new
  pub same : after ≡ before
  pub nothing : notes ≡ noted 0 none_skipped []

-- memory ran out for the notes on the listed messages
pub record NoRoomForNotes (settings : Settings) (old : Place) (before : Keeping) (cut : Cut)
    (new : Place) (after : Keeping)
    (notes : Noted) : Type 0 where
  pub items : List Item
  pub is : cut ≡ cut_of NoMemory None
  pub enters : Enters_with settings old (Ok items) new
  pub same : after ≡ before
  pub nothing : notes ≡ noted (length items) none_skipped []

-- the listing was known, and its messages were dealt with, or as far as went well
pub record Dealt (settings : Settings) (target : Target) (now : ℕ) (old : Place) (before : Keeping)
    (result : Result (Unit {0}) Cut) (new : Place) (after : Keeping) (notes : Noted) : Type 0 where
  pub items : List Item
  pub mid : Place
  pub enters : Enters_with settings old (Ok items) mid
  pub total : notes.total ≡ length items
  pub carries : Carries settings target items now mid before.store before.file
      [] result new after.store after.file notes.lines notes.skipped

-- a session up to its QUIT, or until it was cut
abbrev pub Proceeds : Settings → Target → ℕ → Place → Keeping → Result (Unit {0}) Cut → Place → Keeping → Noted → Type 0
Proceeds settings target now old before (Ok done) new after notes = Dealt settings target now old before
    (Ok done) new after notes
Proceeds settings target now old before (Err cut) new after notes = NotEntered settings old before cut new after notes
    ⊎ (NoRoomForNotes settings old before cut new after notes
    ⊎ Dealt settings target now old before (Err cut) new after notes)

-- how a session came out
abbrev pub outcome_of : Result (Unit {0}) Cut → Outcome
outcome_of (Ok done) = Ended
outcome_of (Err cut) = WasCut cut.fault

-- after a cut the reply under way is dropped and the tail said
abbrev pub LeavesLink : Result (Unit {0}) Cut → Place → Link → Type 0
LeavesLink (Ok done) mid link = link ≡ mid.link
LeavesLink (Err cut) mid link = (new : Place) × TalksTail cut mid new × (link ≡ new.link)

-- a whole session, from a link with nothing waiting to be used
pub record SessionIn (settings : Settings) (target : Target) (now : ℕ) (link : Link) (before : Keeping)
    (report : Report)
    (link' : Link) (after : Keeping) : Type 0 where
  pub result : Result (Unit {0}) Cut
  pub mid : Place
  pub notes : Noted
  pub proceeds : Proceeds settings target now (at link []) before result mid after notes
  pub leaves : LeavesLink result mid link'
  pub reports : Reports (outcome_of result) notes.total notes.skipped notes.lines report

-- a session of an account with a Maildir
abbrev pub Session : Settings → List ℕ → ℕ → Link → AccountFiles → Report → Link → AccountFiles → Type 0
Session settings account now link before report link' after =
    SessionIn settings (AsFiles account) now link (keeps_files before) report link' (keeps_files after)

-- an mboxrd file and the record's file
pub record MboxAccountFiles : Type 0 where
  pub mbox : Stored
  pub file : Stored

abbrev pub mbox_account_files : Stored → Stored → MboxAccountFiles
mbox_account_files mbox file = record { mbox = mbox; file = file }

abbrev pub keeps_entries : MboxAccountFiles → Keeping
keeps_entries account = keeping (in_mbox account.mbox) account.file

-- a session of an account with an mboxrd file
abbrev pub MboxSession : Settings → ℕ → Link → MboxAccountFiles → Report → Link → MboxAccountFiles → Type 0
MboxSession settings now link before report link' after =
    SessionIn settings AsEntries now link (keeps_entries before) report link' (keeps_entries after)
