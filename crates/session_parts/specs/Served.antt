-- What a session does if nothing fails: it ends, and has stored what it wants.
use Rattle.std.specs.{
  Prelude.{◌≡◌, ◌≢◌, ◌⊎◌, ℕ, true, List, [], ◌∷◌, ◌++◌, Contains, Some, Ok, zip},
  List.{AllByRecursion, AllZip, flat_map},
  String.string_bytes,
}
use Rattle.mail_terms.specs.{Listing.{Agree, Item, UidRow}, declared.listing.ScanRow.ScanRow}
use Rattle.mail_store.specs.Mboxrd.{MayGoOn, entry_of}
use Rattle.rc_file.specs.declared.settings.Settings.{Settings}
use Rattle.fetch_record.specs.Record.{Loaded, RecordState}
use Rattle.fetch_rules.specs.Wanted.{wanted}
use Rattle.pop3_wire.specs.{Link.Link, Place.{Place, at}, Reading.{WholeReply, reply_bytes}}
use Rattle.pop3_client.specs.{Conversation.Talked, Texts.body_text, Turns.{IsGood, Turn, asking, retr}}
use Rattle.session_parts.specs.{
  declared.{fault.Fault.TheVariants.NoMemory, report.{Report.Report, Outcome.TheVariants.{Ended, Cut as WasCut}}},
  Cuts.{ArePlanned, Extends, refused_in},
  Opening.SessionOpened,
  Readiness.merged_in,
  Task.file_from,
  Record.{Keeps, FileReadAs},
  Session.{Enters_with, Keeping, SessionIn},
  Target.{Target, AsFiles, AsEntries, Stores, held_flags, odd_in},
}

-- ---- nothing fails

-- what came begins a whole and positive reply to each of these turns, within the limits, and is all of them if the link
-- has ended
pub record AreAnswered (turns : List Turn) (old new : Link) : Type 0 where
  pub later : List ℕ
  pub rest : List ℕ
  pub replies : List WholeReply
  pub whole : new.got ++ later ≡ old.got ++ (flat_map reply_bytes replies ++ rest)
  pub good : AllZip IsGood turns replies
  pub none_left : new.ended ≡ true → later ≡ []

-- the folders of the Maildir are there; or the mboxrd file is, and an entry may follow it
abbrev pub IsUsable : Target → Stores → Type 0
IsUsable (AsFiles account) store = (store.maildir.there.tmp ≡ true) × (store.maildir.there.new ≡ true)
    × (store.maildir.there.cur ≡ true)
IsUsable AsEntries store = (bytes : List ℕ) × (store.mbox.content ≡ Some bytes) × MayGoOn bytes

-- the turns that were sent of the opening and the plan are answered, and the listings agree; the store can be used, the
-- record can be read, no call of them or of the link is refused, and memory doesn't run out
pub record Succeeds (settings : Settings) (target : Target) (now : ℕ) (link : Link) (before : Keeping) (report : Report)
    (link' : Link) (after : Keeping) : Type 0 where
  pub answered : (turns unsent : List Turn) (more : List ℕ)
      → ArePlanned settings target now link before link' (turns ++ unsent)
      → link'.sent ≡ link.sent ++ (asking turns ++ more) → AreAnswered turns link link'
  pub agree : (count : ℕ) (uids : List UidRow) (sizes : List ScanRow) (mid : Place) → Extends mid.link link'
      → SessionOpened (string_bytes settings.username) (string_bytes settings.password)
      (at link []) mid count uids sizes
      → Agree count uids sizes
  pub usable : IsUsable target after.store
  pub read : (loaded : Loaded) × FileReadAs before.file.content loaded
  pub store_refused : refused_in target after.store ≡ refused_in target before.store
  pub file_refused : after.file.failures ≡ before.file.failures
  pub link_refused : link'.failures ≡ link.failures
  pub memory : report.outcome ≢ WasCut NoMemory

-- ---- what is stored

-- the text of this reply is stored under this id: in a file of the Maildir; or as one of the entries at the end of the
-- mboxrd file
abbrev pub HasText : Target → Stores → List ℕ → WholeReply → Type 0
HasText (AsFiles account) store uid reply = Contains store.maildir.files (file_from account uid reply)
HasText AsEntries store uid reply = (was : List ℕ) × (texts : List (List ℕ))
    × (store.mbox.content ≡ Some (was ++ flat_map entry_of texts)) × Contains texts (body_text reply.body)

-- a message was held before; or RETR was sent for it, and the text that came is stored
abbrev pub IsStored : Target → Stores → List (Turn × WholeReply) → Stores → ℕ × Item → Type 0
IsStored target old said new message = (held_flags target old (message.1 ∷ []) ≡ true ∷ [])
    ⊎ ((reply : WholeReply) × Contains said (retr message.0, reply) × HasText target new message.1.uid reply)

-- each message that is wanted of the listing that the server gave, by the record once that is merged into it, is stored
pub record StoresAll (settings : Settings) (target : Target) (now : ℕ) (link : Link) (before : Keeping) (link' : Link)
    (after : Keeping) : Type 0 where
  pub items : List Item
  pub mid : Place
  pub listed : Enters_with settings (at link []) (Ok items) mid
  pub was : RecordState
  pub stood : Keeps before.file.content was
  pub turns : List Turn
  pub replies : List WholeReply
  pub new : Place
  pub talked : Talked turns replies mid new
  pub last : link' ≡ new.link
  pub each : AllByRecursion (IsStored target before.store (zip turns replies) after.store)
      (wanted settings (odd_in target before.store) (merged_in target before.store was items now) items)

-- a law: if nothing fails, a session ends; and one that ended has stored each message that it wants
abbrev pub GoodSessionsStoreAll : Type 0
GoodSessionsStoreAll = (settings : Settings) (target : Target) (now : ℕ) (link : Link) (before : Keeping)
    (report : Report) (link' : Link) (after : Keeping)
    → SessionIn settings target now link before report link' after
    → (Succeeds settings target now link before report link' after → report.outcome ≡ Ended)
    × (report.outcome ≡ Ended → StoresAll settings target now link before link' after)
