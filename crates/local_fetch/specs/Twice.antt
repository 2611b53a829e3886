-- Two calls of `fetch_local` in a row over one maildrop: the first stores all, the second nothing.
use Rattle.std.specs.{
  Prelude.{◌≡◌, ℕ, false, List, [], ◌∷◌, ◌++◌, map, None, Some},
  List.{AllByRecursion, count_by},
  String.string_bytes,
}
use Rattle.mail_terms.specs.Distinct.{AreDistinct}
use Rattle.mail_store.specs.{
  Devices.stored_in,
  FileName.stem_of,
  declared.{maildir.disk.MaildirDisk.Ghosts as DiskGhosts, file.flat_file.FlatFile.Ghosts as FileGhosts},
}
use Rattle.rc_file.specs.declared.settings.Settings.{Settings}
use Rattle.pop3_wire.specs.{Honest.HasSent, World.{Message, IsMessage}, declared.command.Command.Command}
use Rattle.pop3_wire.specs.declared.wire.Wire.{Ghosts as WireGhosts}
use Rattle.pop3_server.specs.{
  declared.{maildrop.Maildrop.Ghosts as DropGhosts, state.State.TheVariants.Authorization},
  LoopLink.Loop,
  Maildrop.DropMail,
  ServerMachine.Machine,
}
use Rattle.fetch_rules.specs.Limits.{SetsNoLimits}
use Rattle.fetch_runs.specs.{
  Accounts.{copies, message_ids, without_flags},
  Calls.account_over,
  Promises.Devices,
  Sessions.is_retr,
}
use Rattle.session_parts.specs.{
  Account.digits_of,
  declared.{work.Store.TheVariants.{Maildir as InMaildir}, report.Outcome.TheVariants.Ended},
}
use Rattle.local_fetch.specs.{Fetches.Fetch, Local.{WasFetchedLocally, loop_to}}

-- a new server for the user and the password of these settings, with these messages
abbrev pub server_of : Settings → List Message → Machine DropMail
server_of settings messages = record {
  user = string_bytes settings.username;
  pass = string_bytes settings.password;
  state = Authorization None;
  drop = record { slots = map Some messages; failures = 0; removals = 0 };
}

-- a call over these devices that ended, to a new server with these messages; no device failed as often as can be
-- counted, and nothing in the Maildir that can't be opened bears a message's name
pub record EndsOver {D F : Type 0} (link : WireGhosts (Loop DropMail)) (disk : DiskGhosts D) (file : FileGhosts F)
    (drop : DropGhosts DropMail) (messages : List Message) (devices : Devices D F) (fetch : Fetch DropMail D F)
    : Type 0 where
  pub server : fetch.server ≡ server_of fetch.settings messages
  pub fetched : WasFetchedLocally link disk file drop fetch.now (account_over InMaildir fetch.settings devices)
      fetch.server fetch.report (account_over InMaildir fetch.settings fetch.after) fetch.wire
  pub store_sound : disk.sound fetch.after.store
  pub file_sound : file.sound fetch.after.file
  pub drop_sound : drop.sound fetch.wire.machine.drop
  pub none_odd : (disk.maildir fetch.after.store).odd ≡ []
  pub ended : fetch.report.outcome ≡ Ended

-- a law: over any messages with distinct ids, from a Maildir without files and no record on, without limits, the first
-- call stores each; a second one over the same messages that reads only what is new sends no RETR, and unless readers
-- take files away meanwhile the Maildir has the same files
abbrev pub SecondsFetchNothing : {D F : Type 0} → WireGhosts (Loop DropMail) → DiskGhosts D → FileGhosts F
    → DropGhosts DropMail → Type 0
SecondsFetchNothing {D} {F} link disk file drop = (text : List ℕ → List ℕ) (messages : List Message)
    (devices : Devices D F) (first second : Fetch DropMail D F) → AllByRecursion IsMessage messages
    → AllByRecursion (λ (m : Message). m.text ≡ text m.uid) messages → AreDistinct (message_ids messages)
    → (disk.maildir devices.store).files ≡ [] → (stored_in file devices.file).content ≡ None
    → SetsNoLimits first.settings → second.settings ≡ first.settings → second.settings.read_all ≡ false
    → EndsOver link disk file drop messages devices first → EndsOver link disk file drop messages first.after second
    → let stem = stem_of (digits_of first.settings) in
    AllByRecursion (λ (m : Message). copies (disk.maildir first.after.store).files (stem m.uid) ≡ m.text ∷ []) messages
    × (second.report.retrieved ≡ 0)
    × (sent : List ℕ) × ((link.history second.wire).sent ≡ (link.history (loop_to second.server)).sent ++ sent)
    × ((commands : List Command) × HasSent commands sent × (count_by is_retr commands ≡ 0))
    × ((disk.maildir second.after.store).taken ≡ (disk.maildir first.after.store).taken
    → without_flags (disk.maildir second.after.store).files ≡ without_flags (disk.maildir first.after.store).files)
