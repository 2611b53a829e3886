-- What the laws of calls come to, said in plain data. So a law that concludes less isn't proved.
use Rattle.std.specs.{
  Prelude.{◌≡◌, ◌⊎◌, ◌≤◌, ◌||◌, ◌++◌, ℕ, true, false, List, [], length, take, None},
  List.AllByRecursion,
}
use Rattle.pop3_wire.specs.{World.Message, declared.wire.Wire.Ghosts as WireGhosts}
use Rattle.mail_terms.specs.{Distinct.AreDistinct, Text.IsWhole, UniqueId.{has_id, is_legal_id}}
use Rattle.rc_file.specs.declared.settings.Settings.{Settings}
use Rattle.fetch_record.specs.Record.{is_delivered}
use Rattle.fetch_rules.specs.Wanted.{limit_or_all}
use Rattle.mail_store.specs.{
  Devices.stored_in,
  FileName.{is_held, stem_of},
  Mboxrd.entry_of,
  declared.{file.flat_file.FlatFile.Ghosts as FileGhosts, maildir.disk.MaildirDisk.Ghosts as DiskGhosts},
}
use Rattle.session_parts.specs.{
  Account.digits_of,
  Target.mail_in,
  declared.{report.Outcome.TheVariants.Ended, work.Store.TheVariants.{Maildir as InMaildir, Mboxrd as InMbox}},
}
use Rattle.fetch_runs.specs.{
  Accounts.{AccountMail, copies, message_ids, selected, texts_of},
  Calls.{IsCall, IsLeftByLoss, IsMboxLeftByLoss, Shows, ShowsMbox},
  Losses.{IsCrashSafe, IsMboxSafe, TrustsMbox, TrustsRecord},
  Promises.{Base, Call, ComesFor, Devices, HoldsEntries, Invariant, IsTextOf, Mail, State},
  Sessions.{MboxMail, entries_of},
  Witnesses.{HaveNamedTexts, mail_named},
}

-- ---- with a Maildir

-- an uncut call that met no odd name over these messages, with legal and distinct ids and the texts that are named for
-- these, from a Maildir without files and no record on
pub record IsFirstCall {W D F : Type 0} (link : WireGhosts W) (disk : DiskGhosts D) (files : FileGhosts F)
    (text : List ℕ → List ℕ) (all : List Message) (devices : Devices D F) (call : Call W D F) : Type 0 where
  pub each : HaveNamedTexts text all
  pub distinct : AreDistinct (message_ids all)
  pub shown : call.maildrop ≡ all
  pub no_file : (disk.maildir devices.store).files ≡ []
  pub no_record : (stored_in files devices.file).content ≡ None
  pub is : IsCall link disk files InMaildir disk.sound (ComesFor (mail_named call.settings text)) devices call
  pub none_odd : (disk.maildir call.after.store).odd ≡ []
  pub ended : call.report.outcome ≡ Ended

-- the first messages within the limit on sizes, as many as the limit on their number says
abbrev pub first_within : Settings → List Message → List Message
first_within settings all = let fit = selected settings.max_size all in
    take (limit_or_all settings.max_count (length fit)) fit

-- a law: such a call leaves exactly the files of the first messages, as its limits say
abbrev pub FirstsArePrefixes : {W D F : Type 0} → WireGhosts W → DiskGhosts D → FileGhosts F → Type 0
FirstsArePrefixes {W} {D} {F} link disk files = (text : List ℕ → List ℕ) (all : List Message) (devices : Devices D F)
    (call : Call W D F) → HaveNamedTexts text all → AreDistinct (message_ids all) → call.maildrop ≡ all
    → (disk.maildir devices.store).files ≡ [] → (stored_in files devices.file).content ≡ None
    → IsCall link disk files InMaildir disk.sound (ComesFor (mail_named call.settings text)) devices call
    → (disk.maildir call.after.store).odd ≡ [] → call.report.outcome ≡ Ended → (id : List ℕ) → is_legal_id id ≡ true
    → copies (disk.maildir call.after.store).files (stem_of (digits_of call.settings) id)
    ≡ texts_of (first_within call.settings all) id

-- a law: after such a call and a loss of power right after it these are held, but perhaps one
abbrev pub LossesTakeOne : {W D F : Type 0} → WireGhosts W → DiskGhosts D → FileGhosts F → Type 0
LossesTakeOne {W} {D} {F} link disk files = (text : List ℕ → List ℕ) (all : List Message) (devices : Devices D F)
    (call : Call W D F) (left : Devices D F) (account : AccountMail) → IsFirstCall link disk files text all devices call
    → IsLeftByLoss disk files call.after left account → (lost : List Message) × (length lost ≤ 1)
    × AllByRecursion (λ (m : Message). (is_held (digits_of call.settings) account.maildir m.uid
    || has_id (message_ids lost) m.uid) ≡ true) (first_within call.settings all)

-- a law: after a call during which no reader is seen to take a file away, and a loss of power right after it, and after
-- another loss, what the record that is left shows as delivered is held
abbrev pub LossesKeepTheRecorded : {W D F : Type 0} → WireGhosts W → DiskGhosts D → FileGhosts F → Type 0
LossesKeepTheRecorded {W} {D} {F} link disk files = (mail : Mail) (state : State) (devices : Devices D F)
    (call : Call W D F) (first second : Devices D F) (account again : AccountMail)
    → Shows disk files devices state.account → Invariant mail state → IsCrashSafe (files.disk devices.file) mail state
    → ((id : List ℕ) → state.taken id ≡ false) → digits_of call.settings ≡ mail.account
    → IsCall link disk files InMaildir disk.sound (ComesFor mail) devices call
    → (disk.maildir call.after.store).taken ≡ (disk.maildir devices.store).taken
    → TrustsRecord files devices.file call.after.file → IsLeftByLoss disk files call.after first account
    → IsLeftByLoss disk files first second again → (id : List ℕ)
    → (is_delivered account.rows id ≡ true → is_held mail.account account.maildir id ≡ true)
    × (is_delivered again.rows id ≡ true → is_held mail.account again.maildir id ≡ true)

-- ---- with an mboxrd file

-- nothing was fetched yet: the file is as it was before, and there is no row
abbrev pub no_entries : (List ℕ → List ℕ) → List ℕ → Base
no_entries text bytes = record { start = bytes; had = λ id. false; text = text }

-- a law: a call that reads only what is new, over any messages with legal and distinct ids and the whole texts that are
-- named for these, from any mboxrd file and no record on, leaves what the file had, then entries, and perhaps a front
-- of one more; an uncut one without a limit on their number exactly the entries of those within the limit on sizes
abbrev pub FirstsAreEntries : {W D F : Type 0} → WireGhosts W → DiskGhosts D → FileGhosts F → Type 0
FirstsAreEntries {W} {D} {F} link disk files = (text : List ℕ → List ℕ) (all : List Message) (devices : Devices F F)
    (call : Call W F F) → HaveNamedTexts text all → AllByRecursion (λ (m : Message). IsWhole m.text) all
    → AreDistinct (message_ids all) → call.maildrop ≡ all → (stored_in files devices.file).content ≡ None
    → call.settings.read_all ≡ false → let bytes = mail_in (stored_in files devices.store).content in
    IsCall link disk files InMbox files.sound (IsTextOf (no_entries text bytes)) devices call
    → (more : List Message) × (part behind : List ℕ)
    × (mail_in (stored_in files call.after.store).content ≡ (bytes ++ entries_of more) ++ part)
    × ((part ≡ []) ⊎ ((m : Message) × (entry_of m.text ≡ part ++ behind)))
    × (call.settings.max_count ≡ 0 → call.report.outcome ≡ Ended
    → (part ≡ []) × (more ≡ selected call.settings.max_size all))

-- a law: after a call that reads only what is new, and a loss of power right after it, the file has the entry of each
-- message that was recorded before the call, that is gone from the server, or that the record that is left shows as
-- delivered, but for those that were recorded before the first call; and after another loss it has those recorded
abbrev pub LossesKeepEntries : {W D F : Type 0} → WireGhosts W → DiskGhosts D → FileGhosts F → Type 0
LossesKeepEntries {W} {D} {F} link disk files = (base : Base) (done : List Message) (account : MboxMail)
    (devices : Devices F F) (call : Call W F F) (first second : Devices F F) (now again : MboxMail)
    → ShowsMbox files devices account → HoldsEntries base done account → IsMboxSafe (HoldsEntries base) files devices
    → call.settings.read_all ≡ false → IsCall link disk files InMbox files.sound (IsTextOf base) devices call
    → TrustsMbox files devices call.after → IsMboxLeftByLoss files call.after first now
    → IsMboxLeftByLoss files first second again → (id : List ℕ) → base.had id ≡ false
    → let entry = entry_of (base.text id) in
    ((is_delivered account.rows id || (has_id call.vanished id || is_delivered now.rows id)) ≡ true
    → (front behind : List ℕ) × (now.file ≡ front ++ (entry ++ behind)))
    × ((is_delivered now.rows id || is_delivered again.rows id) ≡ true
    → (front behind : List ℕ) × (again.file ≡ front ++ (entry ++ behind)))
