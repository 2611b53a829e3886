-- Calls of `fetch_local`, and what others do between them: what is promised of any list of these. Here the server's
-- honesty is no premise: it follows from the contract of `fetch_local`.
use Rattle.std.specs.{
  Prelude.{◌≡◌, ◌-◌, ℕ, true, false, List, [], ◌∷◌, ◌++◌, None, Some, slice_get},
  List.{AllByRecursion, count_by},
}
use Rattle.mail_store.specs.{
  Devices.stored_in,
  declared.{maildir.disk.MaildirDisk.Ghosts as DiskGhosts, file.flat_file.FlatFile.Ghosts as FileGhosts},
  FileName.{is_held, is_odd, stem_of},
  Maildir.Maildir,
}
use Rattle.pop3_wire.specs.{
  World.{IsMessage, Message},
  Honest.HasSent,
  declared.{command.Command.{Command, TheVariants.Dele}, wire.Wire.Ghosts as WireGhosts},
}
use Rattle.mail_terms.specs.UniqueId.{has_id}
use Rattle.fetch_record.specs.{Record.Row, RecordMeaning.FileStandsFor}
use Rattle.pop3_server.specs.{
  declared.maildrop.Maildrop.Ghosts as DropGhosts,
  Maildrop.there,
  ServerMachine.Machine,
  LoopLink.Loop,
}
use Rattle.rc_file.specs.declared.settings.Settings.{Settings}
use Rattle.session_parts.specs.{
  declared.work.Store.{Store, TheVariants.{Maildir as InMaildir, Mboxrd as InMbox}},
  declared.report.{Outcome.TheVariants.Ended, Report.Report},
  Account.digits_of,
  Target.{is_sound, mail_in},
}
use Rattle.fetch_runs.specs.{
  Accounts.{AccountMail, copies, message_ids},
  Promises.{Call, ComesFor, Devices, IsBetween, IsMaildrop, IsTextOf, Invariant, Mail, State, state_with, AppendsMail},
  Promises.{Base, FetchesWanted, HoldsEntries},
  Sessions.{MboxMail, entries_of, is_retr},
  Order.{HoldsNoMore, KeepsMboxOrder, KeepsOrder},
  Outcomes.no_entries,
  Calls.{Called, Happening, IsLeftByLoss, IsMboxLeftByLoss, IsPromised, KeepsEntries, Left, Lost, Shows},
  Calls.{ShowsMbox, account_over, with_left},
  Losses.{IsCrashSafe, IsMboxSafe, KeepsDurable, KeepsFronts, TrustsMbox},
}
use Rattle.local_fetch.specs.Local.{AreWithout, WasFetchedLocally, loop_to}

-- one call of `fetch_local`, with its server before it, and with the link to it as it was returned
pub record Fetch (M S F : Type 0) : Type 0 where
  pub settings : Settings
  pub now : ℕ
  pub server : Machine M
  pub report : Report
  pub wire : Loop M
  pub after : Devices S F

-- the messages of a server's maildrop
abbrev pub shown_by : {M : Type 0} → DropGhosts M → Machine M → List Message
shown_by drop server = there (drop.mail server.drop).slots

-- the call, as one of `session`
abbrev pub as_call : {M S F : Type 0} → DropGhosts M → Fetch M S F → List (List ℕ) → Call (Loop M) S F
as_call drop fetch vanished = record {
  settings = fetch.settings;
  now = fetch.now;
  report = fetch.report;
  wire = loop_to fetch.server;
  wire' = fetch.wire;
  after = fetch.after;
  maildrop = shown_by drop fetch.server;
  vanished = vanished;
}

-- a call was made with these devices. The world: its server has mail whose ids are distinct, and texts that come for
-- these. Memory:
-- the devices and the maildrop did what their traits say, which those in memory do if fewer of their calls lacked
-- memory than can be counted
pub record IsFetch {M D F S : Type 0} (link : WireGhosts (Loop M)) (disk : DiskGhosts D) (file : FileGhosts F)
    (drop : DropGhosts M) (In : S → Store D F) (Comes : List ℕ → List ℕ → Type 0) (devices : Devices S F)
    (fetch : Fetch M S F) : Type 0 where
  pub fetched : WasFetchedLocally link disk file drop fetch.now (account_over In fetch.settings devices) fetch.server
      fetch.report (account_over In fetch.settings fetch.after) fetch.wire
  pub messages : AllByRecursion IsMessage (shown_by drop fetch.server)
  pub maildrop : IsMaildrop Comes (shown_by drop fetch.server)
  pub store_sound : is_sound disk file (In fetch.after.store)
  pub file_sound : file.sound fetch.after.file
  pub drop_sound : drop.sound fetch.wire.machine.drop

-- the server has its messages afterwards, but for those with these ids
abbrev pub ServerRemoves : {M S F : Type 0} → DropGhosts M → Fetch M S F → List (List ℕ) → Type 0
ServerRemoves drop fetch vanished = AreWithout (shown_by drop fetch.server) vanished (shown_by drop fetch.wire.machine)

-- ---- with a Maildir

-- the devices show a state with the invariant; if the next of these happens, a call keeps its promises, and they do so
-- after it, and after others or a loss of power. What such a loss takes, if it can do no harm, doesn't count as taken
-- away
abbrev pub KeepPromises : {M D F : Type 0} → WireGhosts (Loop M) → DiskGhosts D → FileGhosts F → DropGhosts M → Mail
    → State → Devices D F → List (Happening (Fetch M D F) (Devices D F) AccountMail) → Type 0
KeepPromises link disk file drop mail state devices [] = Shows disk file devices state.account × Invariant mail state
KeepPromises link disk file drop mail state devices (Called fetch ∷ later) = Shows disk file devices state.account
    × Invariant mail state × (digits_of fetch.settings ≡ mail.account
    → IsFetch link disk file drop InMaildir (ComesFor mail) devices fetch
    → (vanished : List (List ℕ)) × ServerRemoves drop fetch vanished
    × (is : IsPromised link disk file mail state devices (as_call drop fetch vanished)) × KeepsOrder file is
    × KeepPromises link disk file drop mail (state_with mail (with_left mail state is.left) vanished is.after)
    fetch.after later)
KeepPromises link disk file drop mail state devices (Left left account ∷ later) = Shows disk file devices state.account
    × Invariant mail state × (Shows disk file left account → IsBetween mail state.account account
    → let next = state_with mail state [] account in
    (KeepsDurable file mail.account state.account devices.file left.file account
    → (IsCrashSafe (file.disk devices.file) mail state → IsCrashSafe (file.disk left.file) mail next)
    × (HoldsNoMore mail state account → KeepsFronts mail state next))
    × KeepPromises link disk file drop mail next left later)
KeepPromises link disk file drop mail state devices (Lost left account ∷ later) = Shows disk file devices state.account
    × Invariant mail state × (IsCrashSafe (file.disk devices.file) mail state
    → IsLeftByLoss disk file devices left account
    → let next : State = record state { account = account } in IsCrashSafe (file.disk left.file) mail next
    × KeepsFronts mail state next × KeepPromises link disk file drop mail next left later)

-- a law: so it is of any list, from a state with the invariant on
abbrev pub FetchesKeepPromises : {M D F : Type 0} → WireGhosts (Loop M) → DiskGhosts D → FileGhosts F → DropGhosts M
    → Type 0
FetchesKeepPromises {M} {D} {F} link disk file drop = (mail : Mail) (state : State) (devices : Devices D F)
    (list : List (Happening (Fetch M D F) (Devices D F) AccountMail)) → Shows disk file devices state.account
    → Invariant mail state → KeepPromises link disk file drop mail state devices list

-- nothing was fetched yet: there is no row, and nothing is gone or was taken away
abbrev pub nothing_yet : Maildir → State
nothing_yet maildir = record { account = record { rows = []; maildir = maildir }; gone = []; taken = λ id. false }

-- the law: so it is from a Maildir without files and no record on
abbrev pub FetchesFromNothing : {M D F : Type 0} → WireGhosts (Loop M) → DiskGhosts D → FileGhosts F → DropGhosts M
    → Type 0
FetchesFromNothing {M} {D} {F} link disk file drop = (mail : Mail) (devices : Devices D F)
    (list : List (Happening (Fetch M D F) (Devices D F) AccountMail)) → (disk.maildir devices.store).files ≡ []
    → (stored_in file devices.file).content ≡ None
    → KeepPromises link disk file drop mail (nothing_yet (disk.maildir devices.store)) devices list

-- each DELE that was sent whole is for one of these messages, whose id is of this kind; and an uncut call reports as
-- many texts as it sent RETRs
pub record SendsFor (messages : List Message) (Is : List ℕ → Type 0) (report : Report) (sent : List ℕ) : Type 0 where
  pub commands : List Command
  pub asked : HasSent commands sent
  pub deletes : (front behind : List Command) (number : ℕ) → commands ≡ front ++ Dele number ∷ behind
      → (message : Message) × (slice_get messages (number - 1) ≡ Some message) × Is message.uid
  pub retrieved : report.outcome ≡ Ended → report.retrieved ≡ count_by is_retr commands

-- a law: from a Maildir without files and no record on, each message that a call removed from its server, or that it
-- sent DELE for, is held; and if the call is uncut, each message of the server that it wants is in one file, with its
-- text
abbrev pub FirstFetchesKeepMail : {M D F : Type 0} → WireGhosts (Loop M) → DiskGhosts D → FileGhosts F → DropGhosts M
    → Type 0
FirstFetchesKeepMail {M} {D} {F} link disk file drop = (text : List ℕ → List ℕ) (devices : Devices D F)
    (fetch : Fetch M D F) → (disk.maildir devices.store).files ≡ [] → (stored_in file devices.file).content ≡ None
    → IsFetch link disk file drop InMaildir (λ id came. came ≡ text id) devices fetch
    → let account = digits_of fetch.settings in (vanished : List (List ℕ)) × ServerRemoves drop fetch vanished
    × AllByRecursion (λ id. is_held account (disk.maildir fetch.after.store) id ≡ true) vanished
    × (sent : List ℕ) × ((link.history fetch.wire).sent ≡ (link.history (loop_to fetch.server)).sent ++ sent)
    × SendsFor (shown_by drop fetch.server) (λ id. is_held account (disk.maildir fetch.after.store) id ≡ true)
    fetch.report sent
    × FetchesWanted (as_call drop fetch vanished) (is_odd account (disk.maildir fetch.after.store)) (λ id. false)
    (λ m. copies (disk.maildir fetch.after.store).files (stem_of account m.uid) ≡ m.text ∷ [])

-- ---- with an mboxrd file

-- the devices show an account whose file holds the entries of these messages; if the next of these happens, a call
-- that reads only what is new appends entries and keeps its promises, and they do so after it. What others left has the
-- entries of some messages after some bytes, as each file has without an open intent; and so has what a loss of power
-- left, if whatever it might leave has, which calls keep: it keeps all entries
abbrev pub KeepMboxPromises : {M D F : Type 0} → WireGhosts (Loop M) → DiskGhosts D → FileGhosts F → DropGhosts M
    → Base → List Message → MboxMail → Devices F F → List (Happening (Fetch M F F) (Devices F F) MboxMail) → Type 0
KeepMboxPromises link disk file drop base done account devices [] =
    ShowsMbox file devices account × HoldsEntries base done account
KeepMboxPromises link disk file drop base done account devices (Called fetch ∷ later) =
    ShowsMbox file devices account × HoldsEntries base done account × (fetch.settings.read_all ≡ false
    → IsFetch link disk file drop InMbox (IsTextOf base) devices fetch
    → (vanished : List (List ℕ)) × ServerRemoves drop fetch vanished
    × (holds : HoldsEntries base done account) × (sent : List ℕ) × (after : MboxMail)
    × ((link.history fetch.wire).sent ≡ (link.history (loop_to fetch.server)).sent ++ sent)
    × ShowsMbox file fetch.after after × (appends : AppendsMail base holds (as_call drop fetch vanished) sent after)
    × (TrustsMbox file devices fetch.after → IsMboxSafe (HoldsEntries base) file devices
    → IsMboxSafe (HoldsEntries base) file fetch.after)
    × KeepsMboxOrder file devices appends
    × KeepMboxPromises link disk file drop base (done ++ appends.more) after fetch.after later)
KeepMboxPromises link disk file drop base done account devices (Left left now ∷ later) =
    ShowsMbox file devices account × HoldsEntries base done account × (ShowsMbox file left now
    → (from : Base) (first : List Message) → HoldsEntries from first now
    → KeepMboxPromises link disk file drop from first now left later)
KeepMboxPromises link disk file drop base done account devices (Lost left now ∷ later) =
    ShowsMbox file devices account × HoldsEntries base done account × (IsMboxSafe (HoldsEntries base) file devices
    → IsMboxLeftByLoss file devices left now → KeepsEntries base done now.file
    × IsMboxSafe (HoldsEntries base) file left
    × ((first : List Message) × KeepMboxPromises link disk file drop base first now left later))

-- a law: so it is of any list
abbrev pub MboxFetchesKeepPromises : {M D F : Type 0} → WireGhosts (Loop M) → DiskGhosts D → FileGhosts F
    → DropGhosts M → Type 0
MboxFetchesKeepPromises {M} {D} {F} link disk file drop = (base : Base) (done : List Message) (account : MboxMail)
    (devices : Devices F F) (list : List (Happening (Fetch M F F) (Devices F F) MboxMail))
    → ShowsMbox file devices account → HoldsEntries base done account
    → KeepMboxPromises link disk file drop base done account devices list

-- the law: so it is from any mboxrd file and no record on
abbrev pub MboxFetchesFromNothing : {M D F : Type 0} → WireGhosts (Loop M) → DiskGhosts D → FileGhosts F
    → DropGhosts M → Type 0
MboxFetchesFromNothing {M} {D} {F} link disk file drop = (text : List ℕ → List ℕ) (devices : Devices F F)
    (list : List (Happening (Fetch M F F) (Devices F F) MboxMail)) → (stored_in file devices.file).content ≡ None
    → let bytes = mail_in (stored_in file devices.store).content in
    KeepMboxPromises link disk file drop (no_entries text bytes) []
    (record { rows = []; intent = None; file = bytes }) devices list

-- a law: from any mboxrd file and no record on, each message that a call removed from its server, or that it sent DELE
-- for, has an entry; and if the call is uncut, the file is what it was and then entries, no intent is open, and each
-- message of the server that it wants has one, or was known and has one
abbrev pub MboxFirstFetchesKeepMail : {M D F : Type 0} → WireGhosts (Loop M) → DiskGhosts D → FileGhosts F
    → DropGhosts M → Type 0
MboxFirstFetchesKeepMail {M} {D} {F} link disk file drop = (text : List ℕ → List ℕ) (devices : Devices F F)
    (fetch : Fetch M F F) → (stored_in file devices.file).content ≡ None → fetch.settings.read_all ≡ false
    → IsFetch link disk file drop InMbox (IsTextOf (no_entries text [])) devices fetch
    → (vanished : List (List ℕ)) × ServerRemoves drop fetch vanished × (done : List Message)
    × AllByRecursion (λ id. has_id (message_ids done) id ≡ true) vanished
    × (sent : List ℕ) × ((link.history fetch.wire).sent ≡ (link.history (loop_to fetch.server)).sent ++ sent)
    × SendsFor (shown_by drop fetch.server) (λ id. has_id (message_ids done) id ≡ true) fetch.report sent
    × (fetch.report.outcome ≡ Ended
    → (mail_in (stored_in file fetch.after.store).content ≡ mail_in (stored_in file devices.store).content ++ entries_of
    done)
    × ((rows : List Row) × FileStandsFor (stored_in file fetch.after.file).content rows None))
    × (found : List Message) × FetchesWanted (as_call drop fetch vanished) (λ id. false) (has_id (message_ids found))
    (λ m. has_id (message_ids done) m.uid ≡ true)
