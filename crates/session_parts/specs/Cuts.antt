-- Why a session didn't end: what its server, its link, its store, its record's file or its memory did.
use Rattle.std.specs.{Prelude.{◌≡◌, ◌⊎◌, ◌<◌, ℕ, false, List, [], ◌∷◌, ◌++◌, None, Ok}, String.string_bytes}
use Rattle.mail_terms.specs.{Listing.{Agree, Item, UidRow}, declared.listing.ScanRow.ScanRow}
use Rattle.mail_store.specs.MboxCalls.{IsNoMbox}
use Rattle.rc_file.specs.declared.settings.Settings.{Settings}
use Rattle.fetch_record.specs.Record.{RecordState}
use Rattle.pop3_wire.specs.{Link.Link, Reading.WholeReply, Place.{Place, at}}
use Rattle.pop3_client.specs.{Conversation.Talked, Turns.Turn}
use Rattle.session_parts.specs.{
  declared.fault.Fault.{Fault, TheVariants.{ListingsDisagree, StoreRefused, SeenRefused, NoMemory, BadSeen}},
  declared.fault.Why.TheVariants.{Missing, Refused, NotMbox},
  declared.report.{Report.Report, Outcome.TheVariants.Cut as WasCut},
  Fault.Breaks,
  Opening.{opening, SessionOpened},
  CarryingOut.tasks_ahead,
  Readiness.merged_in,
  Task.turns_ahead,
  Record.{Keeps, Misread},
  Session.{Enters_with, Keeping, SessionIn},
  Target.{Target, AsFiles, AsEntries, Stores},
}

-- what was sent and what came went on from before
pub record Extends (old new : Link) : Type 0 where
  pub said : List ℕ
  pub gained : List ℕ
  pub sent : new.sent ≡ old.sent ++ said
  pub got : new.got ≡ old.got ++ gained

-- the turns of the opening; or of it and of what is planned for what it listed, by the record that was read, once the
-- listing is merged into it
abbrev pub ArePlanned : Settings → Target → ℕ → Link → Keeping → Link → List Turn → Type 0
ArePlanned settings target now link before link' turns =
    let begin = opening (string_bytes settings.username) (string_bytes settings.password) in
    (turns ≡ begin) ⊎ ((items : List Item) × (mid : Place) × Enters_with settings (at link []) (Ok items) mid
    × Extends mid.link link' × ((was : RecordState) × Keeps before.file.content was × (turns ≡ begin ++ turns_ahead
    (tasks_ahead settings target items now before.store (merged_in target before.store was items now)))))

-- every turn that was planned before was answered, whole and well, and this one broke: not all of it was sent, or the
-- octets that came of its reply tell why
pub record TurnBroke (settings : Settings) (target : Target) (now : ℕ) (link : Link) (before : Keeping) (new : Place)
    (fault : Fault) : Type 0 where
  pub turns : List Turn
  pub replies : List WholeReply
  pub next : Turn
  pub later : List Turn
  pub mid : Place
  pub planned : ArePlanned settings target now link before mid.link (turns ++ next ∷ later)
  pub talked : Talked turns replies (at link []) mid
  pub broke : Breaks next mid new fault

-- the count and both listings came, and don't agree
pub record Disagreed (settings : Settings) (link : Link) (new : Place) : Type 0 where
  pub count : ℕ
  pub uids : List UidRow
  pub sizes : List ScanRow
  pub opened : SessionOpened (string_bytes settings.username) (string_bytes settings.password)
      (at link []) new count uids sizes
  pub disagree : Agree count uids sizes → ⊥

-- a folder of the Maildir isn't there, or the mboxrd file isn't
abbrev pub IsMissing : Target → Stores → Type 0
IsMissing (AsFiles account) store = (store.maildir.there.tmp ≡ false)
    ⊎ ((store.maildir.there.new ≡ false) ⊎ (store.maildir.there.cur ≡ false))
IsMissing AsEntries store = store.mbox.content ≡ None

-- an entry may not follow the mboxrd file's bytes
abbrev pub IsUnusable : Target → Stores → Type 0
IsUnusable (AsFiles account) store = ⊥
IsUnusable AsEntries store = IsNoMbox store.mbox.content

-- how many calls of the store were refused
abbrev pub refused_in : Target → Stores → ℕ
refused_in (AsFiles account) store = store.maildir.failures
refused_in AsEntries store = store.mbox.failures

-- what led to a fault. Out of memory alone has no cause that a contract can tell
abbrev pub CausesFault : Settings → Target → ℕ → Link → Keeping → Fault → Place → Keeping → Type 0
CausesFault settings target now link before (StoreRefused Missing) mid after = IsMissing target after.store
CausesFault settings target now link before (StoreRefused Refused) mid after =
    refused_in target before.store < refused_in target after.store
CausesFault settings target now link before (StoreRefused NotMbox) mid after = IsUnusable target after.store
CausesFault settings target now link before SeenRefused mid after = before.file.failures < after.file.failures
CausesFault settings target now link before (BadSeen line) mid after = Misread before.file line after.file
CausesFault settings target now link before ListingsDisagree mid after = Disagreed settings link mid
CausesFault settings target now link before NoMemory mid after = Unit {0}
CausesFault settings target now link before fault mid after = TurnBroke settings target now link before mid fault

-- a law: a session that didn't end has its cause
abbrev pub CutsHaveCauses : Type 0
CutsHaveCauses = (settings : Settings) (target : Target) (now : ℕ) (link : Link) (before : Keeping) (report : Report)
    (link' : Link) (after : Keeping) → (done : SessionIn settings target now link before report link' after)
    → (fault : Fault) → report.outcome ≡ WasCut fault → CausesFault settings target now link before fault done.mid after
