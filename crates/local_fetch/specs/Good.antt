-- A call of `fetch_local` in which nothing fails: the session ends, and has stored what it wants.
use Rattle.std.specs.{
  Prelude.{◌≡◌, ◌≢◌, ◌≤◌, ℕ, false, [], ◌∷◌, None, Some, length},
  List.AllByRecursion,
  String.string_bytes,
}
use Rattle.mail_terms.specs.Text.{lines_of_text}
use Rattle.mail_store.specs.{
  Devices.stored_in,
  FileName.stem_of,
  declared.{maildir.disk.MaildirDisk.Ghosts as DiskGhosts, file.flat_file.FlatFile.Ghosts as FileGhosts},
}
use Rattle.rc_file.specs.declared.settings.Settings.{Settings}
use Rattle.pop3_wire.specs.{Stuffed.stuffed_lines, World.{Message, IsMessage}, declared.wire.Wire.Ghosts as WireGhosts}
use Rattle.pop3_client.specs.Turns.{text_limit}
use Rattle.pop3_server.specs.{
  declared.{maildrop.Maildrop.Ghosts as DropGhosts, state.State.TheVariants.Authorization},
  LoopLink.Loop,
  Maildrop.{DropMail, there},
  ServerMachine.Machine,
}
use Rattle.fetch_record.specs.Record.{Loaded}
use Rattle.fetch_rules.specs.Limits.{AllowsAlone}
use Rattle.fetch_runs.specs.{Accounts.copies, Calls.account_over, Promises.Devices}
use Rattle.session_parts.specs.{
  declared.work.Store.TheVariants.{Maildir as InMaildir},
  declared.{fault.Fault.TheVariants.NoMemory, report.{Report.Report, Outcome.TheVariants.{Ended, Cut as WasCut}}},
  Account.{Holding, digits_of},
  Record.FileReadAs,
  Cuts.refused_in,
  Served.{IsUsable, StoresAll},
  Session.{Keeping, keeping},
  Target.{AfterTakingIn, Target, is_sound, stores_of, target_of},
}
use Rattle.local_fetch.specs.{Fetches.Fetch, Local.{WasFetchedLocally, unused}}

-- the message's body, as it is sent, is within the client's limit
abbrev pub IsWithin : Message → Type 0
IsWithin message = length (stuffed_lines (lines_of_text message.text)) ≤ text_limit

-- where the texts of an account go
abbrev pub target_in : {D F : Type 0} → Holding D F → Target
target_in old = target_of old.store (digits_of old.settings)

-- the server has the account's user and password, and messages within the limit; the store can be used, and the
-- record can be read; no call of the devices, of the maildrop or of the link was refused; and memory didn't run out
pub record IsUnhindered {M D F : Type 0} (disk : DiskGhosts D) (file : FileGhosts F) (drop : DropGhosts M)
    (old : Holding D F) (server : Machine M) (report : Report) (new : Holding D F) (wire : Loop M) : Type 0 where
  pub user : server.user ≡ string_bytes old.settings.username
  pub pass : server.pass ≡ string_bytes old.settings.password
  pub messages : AllByRecursion IsMessage (there (drop.mail server.drop).slots)
  pub within : AllByRecursion IsWithin (there (drop.mail server.drop).slots)
  pub usable : IsUsable (target_in old) (stores_of disk file new.store)
  pub read : (loaded : Loaded) × FileReadAs (stored_in file old.file).content loaded
  pub store_refused : refused_in (target_in old) (stores_of disk file new.store)
      ≡ refused_in (target_in old) (stores_of disk file old.store)
  pub file_refused : (stored_in file new.file).failures ≡ (stored_in file old.file).failures
  pub drop_refused : (drop.mail wire.machine.drop).failures ≡ (drop.mail server.drop).failures
  pub up : wire.down ≡ false
  pub memory : report.outcome ≢ WasCut NoMemory

-- what the devices of an account hold
abbrev pub kept_in : {D F : Type 0} → DiskGhosts D → FileGhosts F → Holding D F → Keeping
kept_in disk file account = keeping (stores_of disk file account.store) (stored_in file account.file)

-- a law: the session ends, and each message that it wants is stored
abbrev pub GoodFetchesStoreAll : {M D F : Type 0} → WireGhosts (Loop M) → DiskGhosts D → FileGhosts F → DropGhosts M
    → Type 0
GoodFetchesStoreAll {M} {D} {F} link disk file drop = (now : ℕ) (old : Holding D F) (server : Machine M)
    (report : Report) (new : Holding D F) (wire : Loop M)
    → WasFetchedLocally link disk file drop now old server report new wire
    → is_sound disk file new.store → file.sound new.file → drop.sound wire.machine.drop
    → IsUnhindered disk file drop old server report new wire
    → (report.outcome ≡ Ended) × AfterTakingIn (stores_of disk file old.store) (λ left. StoresAll old.settings
    (target_in old) now unused (keeping left (stored_in file old.file)) wire.link (kept_in disk file new))

-- ---- one message

-- a new server for the user and the password of these settings, whose maildrop has this one message
abbrev pub server_with : Settings → Message → Machine DropMail
server_with settings message = record {
  user = string_bytes settings.username;
  pass = string_bytes settings.password;
  state = Authorization None;
  drop = record { slots = Some message ∷ []; failures = 0; removals = 0 };
}

-- memory didn't run out: no call of the devices or of the link was refused
pub record HadMemory {D F : Type 0} (disk : DiskGhosts D) (file : FileGhosts F) (devices : Devices D F)
    (fetch : Fetch DropMail D F) : Type 0 where
  pub store_refused : (disk.maildir fetch.after.store).failures ≡ (disk.maildir devices.store).failures
  pub file_refused : (stored_in file fetch.after.file).failures ≡ (stored_in file devices.file).failures
  pub up : fetch.wire.down ≡ false
  pub memory : fetch.report.outcome ≢ WasCut NoMemory

-- a law: from a new Maildir without files and no record on, a call to a new server with one message, within the limits,
-- that left these, ends if memory didn't run out, and has stored the message
abbrev pub OneIsStored : {D F : Type 0} → WireGhosts (Loop DropMail) → DiskGhosts D → FileGhosts F
    → DropGhosts DropMail → (store : D) (left : DropMail) → Type 0
OneIsStored {D} {F} link disk file drop store left = (message : Message) (devices : Devices D F)
    (fetch : Fetch DropMail D F) → fetch.after.store ≡ store → fetch.wire.machine.drop ≡ left → IsMessage message
    → IsWithin message → AllowsAlone fetch.settings message.size
    → (disk.maildir devices.store).files ≡ [] → (disk.maildir devices.store).failures ≡ 0
    → stored_in file devices.file ≡ record { content = None; failures = 0 }
    → fetch.server ≡ server_with fetch.settings message
    → WasFetchedLocally link disk file drop fetch.now (account_over InMaildir fetch.settings devices) fetch.server
    fetch.report (account_over InMaildir fetch.settings fetch.after) fetch.wire
    → HadMemory disk file devices fetch
    → (fetch.report.outcome ≡ Ended)
    × (copies (disk.maildir fetch.after.store).files (stem_of (digits_of fetch.settings) message.uid)
    ≡ message.text ∷ [])
