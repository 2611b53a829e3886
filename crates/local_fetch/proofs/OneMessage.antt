-- A call to a server with one message stores it, if memory doesn't run out.
use Rattle.std.{
  proofs.{
    Common.{◌≡◌, ◌<◌, ℕ, Bool, true, false, [], ◌∷◌, List, None, inl, inr, refl, ap, ◌∙◌, arith},
    lemmas.Bool.cases_Bool,
  },
  specs.List.filter,
}
use Rattle.mail_store.specs.{
  declared.{maildir.disk.MaildirDisk.Ghosts as DiskGhosts, file.flat_file.FlatFile.Ghosts as FileGhosts},
  Devices.stored_in,
  FileName.is_odd,
  FlatFile.Stored,
  Maildir.all_there,
}
use Rattle.mail_terms.specs.FailureCount.{greatest_count}
use Rattle.pop3_wire.specs.{World.Message, declared.wire.Wire.Ghosts as WireGhosts}
use Rattle.pop3_server.specs.{declared.maildrop.Maildrop.Ghosts as DropGhosts, LoopLink.Loop, Maildrop.DropMail}
use Rattle.rc_file.specs.declared.settings.Settings.{Settings}
use Rattle.fetch_record.specs.{Record.empty, RecordFile.Two}
use Rattle.fetch_rules.{specs.{Limits.AllowsAlone, Wanted.at_most}, proofs.PlanLemmas.{allows_alone, at_most_one}}
use Rattle.session_parts.specs.{
  Account.digits_of,
  Record.FileReadAs,
  declared.work.Store.TheVariants.{Maildir as InMaildir},
}
use Rattle.fetch_runs.{specs.{Calls.account_over, Promises.may_fetch}, proofs.Lists.are_distinct}
use Rattle.local_fetch.specs.{
  Fetches.{FirstFetchesKeepMail, IsFetch, shown_by},
  Good.{GoodFetchesStoreAll, OneIsStored, server_with},
}

-- nothing is known of it, its name is free, and it is within the limit
is_wanted : (settings : Settings) (message : Message) (is_odd : List ℕ → Bool) → is_odd message.uid ≡ false
    → AllowsAlone settings message.size
    → at_most settings (λ (m : Message). m.size) (filter (may_fetch settings is_odd (λ id. false)) (message ∷ [])) ≡ message ∷ []
is_wanted settings message is_odd free fits =
    let may : may_fetch settings is_odd (λ id. false) message ≡ true = elim (cases_Bool settings.read_all) [
      | inl is ↦ rw (is, free, allows_alone settings message.size fits) refl
      | inr isnt ↦ rw (isnt, free, allows_alone settings message.size fits) refl
    ] in
    rw may (at_most_one settings (λ (m : Message). m.size) message fits)

-- no file stands for the empty record
read_none : FileReadAs None empty
read_none = record {
  version = Two;
  torn = false;
  means = inl (refl, refl);
  outgrown = false;
  grown = inl (omega arith, refl);
  stale = refl;
}

pub one_is_stored : {D F : Type 0} (link : WireGhosts (Loop DropMail)) (disk : DiskGhosts D) (file : FileGhosts F)
    (drop : DropGhosts DropMail) → ((d : DropMail) → drop.mail d ≡ d)
    → ((d : D) → (disk.maildir d).failures < greatest_count → disk.sound d)
    → ((f : F) → file.refusals f < greatest_count → file.sound f) → ((d : DropMail) → drop.sound d) → (store : D) (left : DropMail)
    → (disk.maildir store).there ≡ all_there → (disk.maildir store).odd ≡ [] → left.failures ≡ 0
    → GoodFetchesStoreAll link disk file drop
    → FirstFetchesKeepMail link disk file drop → OneIsStored link disk file drop store left
one_is_stored {D} link disk file drop mail disk_sound file_is_sound drop_sound store left there clear none_dropped good first message
    devices fetch store_is left_is is_message within fits no_file none_failed new_file server_is fetched had =
    let settings = fetch.settings in
    let is_there = ap (λ (d : D). (disk.maildir d).there) store_is ∙ there in
    let none_odd = ap (λ (d : D). (disk.maildir d).odd) store_is ∙ clear in
    let none_left : (drop.mail fetch.wire.machine.drop).failures ≡ 0 =
    ap (λ (d : DropMail). d.failures) (mail fetch.wire.machine.drop ∙ left_is) ∙ none_dropped in
    let no_record : (stored_in file devices.file).content ≡ None = ap (λ (s : Stored). s.content) new_file in
    let few : (disk.maildir fetch.after.store).failures < greatest_count = rw (had.store_refused, none_failed) (omega arith) in
    let none_refused : file.refusals fetch.after.file ≡ 0 = had.file_refused ∙ ap (λ (s : Stored). s.failures) new_file in
    let few' : file.refusals fetch.after.file < greatest_count = rw none_refused (omega arith) in
    let store_sound = disk_sound fetch.after.store few in
    let file_sound = file_is_sound fetch.after.file few' in
    let shown : shown_by drop fetch.server ≡ message ∷ [] = rw (server_is, mail (server_with settings message).drop) refl in
    let (ended, _) = good fetch.now (account_over InMaildir settings devices) fetch.server fetch.report
    (account_over InMaildir settings fetch.after) fetch.wire fetched store_sound file_sound (drop_sound fetch.wire.machine.drop) (record {
      user = rw server_is refl;
      pass = rw server_is refl;
      messages = rw shown (is_message, tt);
      within = rw shown (within, tt);
      usable = (rw is_there refl, rw is_there refl, rw is_there refl);
      read = (empty, rw no_record read_none);
      store_refused = had.store_refused;
      file_refused = had.file_refused;
      drop_refused = none_left ∙ rw (server_is, mail (server_with settings message).drop) refl;
      up = had.up;
      memory = had.memory;
    }) in
    let is : IsFetch link disk file drop InMaildir (λ id came. came ≡ message.text) devices fetch = record {
      fetched = fetched;
      messages = rw shown (is_message, tt);
      maildrop = rw shown (record {
        each = (record { legal = is_message.legal; text = refl }, tt);
        distinct = are_distinct (message.uid ∷ []) (refl, tt);
      });
      store_sound = store_sound;
      file_sound = file_sound;
      drop_sound = drop_sound fetch.wire.machine.drop;
    } in
    let (vanished, _, _, sent, _, _, wanted) = first (λ id. message.text) devices fetch no_file no_record is in
    let free : is_odd (digits_of settings) (disk.maildir fetch.after.store) message.uid ≡ false = rw none_odd refl in (
      ended,
      (rw (shown, is_wanted settings message (is_odd (digits_of settings) (disk.maildir fetch.after.store)) free fits) at
          (wanted ended).1).0,
    )
