-- What holds of one session of the code, whatever its server says, and if it is honest.
use Rattle.std.specs.{
  Prelude.{◌≡◌, ◌⊎◌, ◌<◌, ◌-◌, ℕ, Bool, true, List, [], ◌∷◌, ◌++◌, zip, length, Some, slice_get},
  List.AllByRecursion,
}
use Rattle.pop3_wire.specs.{
  declared.command.Command.{Command, TheVariants.Dele},
  Honest.Honest,
  Link.Link,
  World.Message,
}
use Rattle.mail_terms.specs.Listing.{Item}
use Rattle.rc_file.specs.{Settings.IsValid, declared.settings.Settings.Settings}
use Rattle.fetch_record.specs.Record.{RecordState, Row, is_delivered}
use Rattle.mail_store.specs.{
  FileName.{is_held, mail_file},
  FlatFile.Stored,
  Maildir.{File, Maildir},
  Mboxrd.{MboxFile, entry_of},
}
use Rattle.session_parts.specs.{
  Record.{Keeps, KeepsRows},
  Session.{AccountFiles, MboxAccountFiles, SessionIn, keeps_entries, keeps_files},
  Target.{AsEntries, AsFiles, mail_in},
  declared.report.{Outcome.TheVariants.Ended, Report.Report},
}
use Rattle.fetch_runs.specs.{
  Accounts.{AccountMail, listing_of, without_flags},
  Sessions.{Effect, Leaves, SendsOnly, SessionOverLink, wanted_at, MboxLeaves, MboxMail, MboxSessionOverLink, settled},
  Sessions.{entries_of, mbox_wanted},
}

abbrev pub IsAmong : {X : Type 0} → X → List X → Type 0
IsAmong x xs = (front behind : List _) × (xs ≡ front ++ x ∷ behind)

-- the wanted message of this number has the id, and the text that the session got by that number was kept
abbrev pub WasFetched : List (ℕ × Item) → List (List ℕ) → (List ℕ → Type 0) → ℕ → List ℕ → Type 0
WasFetched wanted texts WasKept number id = (message : ℕ × Item) × (text : List ℕ)
    × IsAmong (message, text) (zip wanted texts)
    × (message.0 ≡ number) × (message.1.uid ≡ id) × WasKept text

-- a DELE gives the number, counted from 1, of a message that may be deleted by this number and its id; no other command
-- deletes
abbrev pub DeletesAllowed : List Item → (ℕ → List ℕ → Type 0) → Command → Type 0
DeletesAllowed listing MayBe (Dele number) =
    (0 < number) × (item : Item) × (slice_get listing (number - 1) ≡ Some item) × MayBe number item.uid
DeletesAllowed listing MayBe _ = Unit {0}

-- the id was recorded as delivered before the session, or was held, or the text that the session got by this number is
-- in one of the files that it added, under the name of the id
abbrev pub MayBeDeleted : Settings → List ℕ → AccountMail → Effect → List File → ℕ → List ℕ → Type 0
MayBeDeleted settings account before effect gained number id =
    ((is_delivered before.rows id ≡ true) ⊎ (is_held account before.maildir id ≡ true))
    ⊎ WasFetched (wanted_at settings account before effect) effect.texts
    (λ text. IsAmong (mail_file account id text) gained) number id

-- every file of `new` and `cur` is still there, with what it held; and each DELE that was sent, the last
-- perhaps in part, asks for such a message
pub record IsSafeSession (settings : Settings) (account : List ℕ) (before : AccountMail) (sent : List ℕ)
    (effect : Effect) (after : AccountMail) : Type 0 where
  pub gained : List File
  pub came : without_flags after.maildir.files ≡ without_flags before.maildir.files ++ gained
  pub sends : SendsOnly (DeletesAllowed effect.listing (MayBeDeleted settings account before effect gained)) sent

-- it is one of the maildrop's messages
abbrev pub IsIn : List Message → Message → Type 0
IsIn drop message = (place : ℕ) × (slice_get drop place ≡ Some message)

-- the joined listing is the maildrop's, and each of these files has the name of an id of one of its messages, and holds
-- the message's text
abbrev pub BringsMessages : List ℕ → List Message → Effect → List File → Type 0
BringsMessages account drop effect gained = (effect.listing ≡ listing_of drop) × AllByRecursion (λ f.
    (message : Message) × IsIn drop message × (f ≡ mail_file account message.uid message.text)) gained

-- the whole entry of the text comes after what the settled file held
abbrev pub StandsAfter : List Item → MboxMail → MboxMail → List ℕ → Type 0
StandsAfter listing before after text =
    (front behind : List ℕ) × (after.file ≡ (settled listing before).file ++ (front ++ (entry_of text ++ behind)))

-- the settled record shows the id as delivered, or the session appended the entry of the text that it got by this
-- number
abbrev pub MboxMayBeDeleted : Settings → MboxMail → Effect → MboxMail → ℕ → List ℕ → Type 0
MboxMayBeDeleted settings before effect after number id = (is_delivered (settled effect.listing before).rows id ≡ true)
    ⊎ WasFetched (mbox_wanted settings before effect) effect.texts (StandsAfter effect.listing before after) number id

-- the file is as it was, or begins with what it held after it was settled; and each DELE that was sent, the
-- last perhaps in part, asks for such a message
pub record MboxIsSafe (settings : Settings) (before : MboxMail) (sent : List ℕ) (effect : Effect)
    (after : MboxMail) : Type 0 where
  pub file : (after.file ≡ before.file)
      ⊎ ((more : List ℕ) × (after.file ≡ (settled effect.listing before).file ++ more))
  pub sends : SendsOnly (DeletesAllowed effect.listing (MboxMayBeDeleted settings before effect after)) sent

-- the joined listing is the maildrop's; what was appended are the entries of messages of the maildrop, with their
-- texts, and at most a beginning of one more
pub record AppendsMessages (drop : List Message) (before : MboxMail) (effect : Effect) (after : MboxMail) : Type 0 where
  pub listing : effect.listing ≡ listing_of drop
  pub messages : List Message
  pub each : AllByRecursion (IsIn drop) messages
  pub rest : List ℕ
  pub file : after.file ≡ (settled effect.listing before).file ++ (entries_of messages ++ rest)
  pub at_most : (rest ≡ [])
      ⊎ ((next : Message) × (behind : List ℕ) × IsIn drop next × (entry_of next.text ≡ rest ++ behind))

-- an account whose record has these rows
abbrev pub holds : List Row → Maildir → AccountMail
holds rows maildir = record { rows = rows; maildir = maildir }

-- what the link gained, what was done to the account, and the record that its file stands for afterwards
pub record IsStep (settings : Settings) (account : List ℕ) (now : ℕ) (link : Link) (before : AccountFiles)
    (rows : List Row) (report : Report) (link' : Link) (after : AccountFiles) : Type 0 where
  pub sent : List ℕ
  pub got : List ℕ
  pub effect : Effect
  pub rows' : List Row
  pub sent_is : link'.sent ≡ link.sent ++ sent
  pub got_is : link'.got ≡ link.got ++ got
  pub now_is : effect.now ≡ now
  pub keeps : KeepsRows after.file.content rows'
  pub session : SessionOverLink settings account (holds rows before.maildir) sent got report effect
      (holds rows' after.maildir)

-- a law: what `sessions_lose_nothing` says in words
abbrev pub SessionsLoseNothing : Type 0
SessionsLoseNothing = (settings : Settings) (account : List ℕ) (now : ℕ) (link : Link) (before : AccountFiles)
    (rows : List Row) (report : Report) (link' : Link) (after : AccountFiles)
    → IsValid settings → KeepsRows before.file.content rows
    → SessionIn settings (AsFiles account) now link (keeps_files before) report link' (keeps_files after)
    → (step : IsStep settings account now link before rows report link' after)
    × (safe : IsSafeSession settings account (holds rows before.maildir) step.sent step.effect
    (holds step.rows' after.maildir))
    × ((drop : List Message) (marks : List Bool) → Honest drop step.sent step.got marks
    → Leaves (holds rows before.maildir) step.effect (holds step.rows' after.maildir)
    ⊎ BringsMessages account drop step.effect safe.gained)

-- ---- with an mboxrd file

-- an account with this record and this mboxrd file; a missing file has no bytes
abbrev pub mbox_holds : RecordState → Stored → MboxMail
mbox_holds record_state mbox = record {
  rows = record_state.rows;
  intent = record_state.intent;
  file = mail_in mbox.content;
}

-- the account is as it was, or settled; or it was settled, the listing merged, and texts appended and recorded
pub record IsMboxStep (settings : Settings) (now : ℕ) (link : Link) (before : MboxAccountFiles)
    (held : RecordState) (report : Report) (link' : Link) (after : MboxAccountFiles) : Type 0 where
  pub sent : List ℕ
  pub got : List ℕ
  pub effect : Effect
  pub held' : RecordState
  pub sent_is : link'.sent ≡ link.sent ++ sent
  pub got_is : link'.got ≡ link.got ++ got
  pub now_is : effect.now ≡ now
  pub keeps : Keeps after.file.content held'
  pub session : MboxSessionOverLink settings (mbox_holds held before.mbox) sent got report effect
      (mbox_holds held' after.mbox)

-- a text came for each wanted message, and the file stands for the texts of the settled file, followed by these, in
-- order
pub record AddsTexts (settings : Settings) (before : MboxMail) (effect : Effect) (after : MboxMail) : Type 0 where
  pub all : length effect.texts ≡ length (mbox_wanted settings before effect)
  pub texts : (first : List (List ℕ)) → MboxFile (settled effect.listing before).file first
      → MboxFile after.file (first ++ effect.texts)

-- a law: what `mbox_sessions_lose_nothing` says in words
abbrev pub MboxSessionsLoseNothing : Type 0
MboxSessionsLoseNothing = (settings : Settings) (now : ℕ) (link : Link) (before : MboxAccountFiles) (held : RecordState)
    (report : Report) (link' : Link) (after : MboxAccountFiles) → IsValid settings → Keeps before.file.content held
    → SessionIn settings AsEntries now link (keeps_entries before) report link' (keeps_entries after)
    → (step : IsMboxStep settings now link before held report link' after)
    × MboxIsSafe settings (mbox_holds held before.mbox) step.sent step.effect (mbox_holds step.held' after.mbox)
    × (report.outcome ≡ Ended
    → AddsTexts settings (mbox_holds held before.mbox) step.effect (mbox_holds step.held' after.mbox))
    × ((drop : List Message) (marks : List Bool) → Honest drop step.sent step.got marks
    → MboxLeaves (mbox_holds held before.mbox) step.effect (mbox_holds step.held' after.mbox)
    ⊎ AppendsMessages drop (mbox_holds held before.mbox) step.effect (mbox_holds step.held' after.mbox))
