-- Witnesses: mail, calls, and what others leave, said in plain data, of which the premises of the laws hold. So a law
-- whose premise holds of less isn't proved.
use Rattle.std.specs.{
  Prelude.{◌≡◌, ◌≢◌, ◌⊎◌, ◌++◌, ◌+◌, ℕ, Bool, true, false, List, map, length, Option, Some, bytes_eq},
  List.AllByRecursion,
}
use Rattle.pop3_wire.specs.{World.Message, declared.wire.Wire.Ghosts as WireGhosts}
use Rattle.mail_terms.specs.{Distinct.AreDistinct, Text.IsWhole, UniqueId.is_legal_id}
use Rattle.rc_file.specs.declared.settings.Settings.{Settings}
use Rattle.fetch_record.specs.Record.{Intent, Row, is_delivered}
use Rattle.mail_store.specs.{
  Devices.stored_in,
  Durable.{Blob, Disk, MayLeave},
  FileName.name_of,
  Maildir.file,
  declared.{file.flat_file.FlatFile.Ghosts as FileGhosts, maildir.disk.MaildirDisk.Ghosts as DiskGhosts},
}
use Rattle.session_parts.specs.{
  Account.digits_of,
  declared.report.Outcome.{Outcome, TheVariants.Ended},
}
use Rattle.fetch_runs.specs.{
  Accounts.{AccountMail, message_ids, without},
  Headline.{IsInOrder, IsSound, IsUnbegun},
  Losses.{KeepsDurable, LeavesRows, ShowsAll, TrustsMbox, TrustsRecord},
  Order.HoldsNoMore,
  Progress.{CountsOn, IsTowards},
  Promises.{Base, Call, Devices, IsBetween, IsMaildrop, IsSafe, IsTextOf, Mail, State, is_safe},
  Sessions.MboxMail,
}

-- mail of these settings' account, where this names the text of each id
abbrev pub mail_named : Settings → (List ℕ → List ℕ) → Mail
mail_named settings text = record { account = digits_of settings; is_text = λ id came. bytes_eq came (text id) }

-- legal ids, and the texts that are named for these
abbrev pub HaveNamedTexts : (List ℕ → List ℕ) → List Message → Type 0
HaveNamedTexts text all = AllByRecursion (λ (m : Message). (is_legal_id m.uid ≡ true) × (m.text ≡ text m.uid)) all

-- no flush of the file was refused
abbrev pub IsUndoubted : Disk → Type 0
IsUndoubted disk = (b : Blob) → disk.now ≡ Some b → b.is_doubted ≡ false

-- a law: in order are any messages with legal and distinct ids, with the texts that are named for these; so is a call
-- over the first of them, and towards all of them, without some that are done; others may leave the files of any of
-- them, and a record that shows no more; a record that is there is trusted if no flush was refused, and so is an mboxrd
-- file; such calls count; any whole texts may be entries; and what isn't recorded isn't begun without an intent for it
pub record PremisesHold {W D F : Type 0} (link : WireGhosts W) (disk : DiskGhosts D) (files : FileGhosts F)
    : Type 0 where
  pub named : (text : List ℕ → List ℕ) (all : List Message)
      → AllByRecursion (λ (m : Message). (is_legal_id m.uid ≡ true) × (m.text ≡ text m.uid)) all
      → HaveNamedTexts text all
  pub sound : (settings : Settings) (text : List ℕ → List ℕ) (limit : ℕ) (all : List Message)
      → HaveNamedTexts text all → AreDistinct (message_ids all)
      → IsSound (record { start = mail_named settings text; size_limit = limit; all = all })
  pub in_order : (mail : Mail) (state : State) (settings : Settings) (come later : List Message) (gone : List (List ℕ))
      → AllByRecursion (IsSafe mail state) gone
      → IsInOrder settings.max_size (come ++ later) (IsSafe mail state) settings (without gone come)
  pub towards : (call : Call W D F) (is_done : List ℕ → Bool) (all : List Message) (gone : List (List ℕ))
      → AllByRecursion (λ id. is_done id ≡ true) gone → call.maildrop ≡ without gone all
      → call.settings.read_all ≡ false → IsTowards (record {
        maildrop = all;
        size_limit = call.settings.max_size;
        count_limit = call.settings.max_count;
      }) is_done call
  pub others : (settings : Settings) (text : List ℕ → List ℕ) (all : List Message) (state : State)
      (after : AccountMail) (from left : F) → HaveNamedTexts text all → AreDistinct (message_ids all)
      → after.maildir.files
      ≡ map (λ (m : Message). file (name_of (digits_of settings) m.uid (length m.text)) m.text) all
      → ShowsAll after.rows state.account.rows → IsBetween (mail_named settings text) state.account after
      × (AllByRecursion (λ (m : Message). is_safe (mail_named settings text) state m.uid ≡ true) all
      → HoldsNoMore (mail_named settings text) state after)
      × (((bytes : Option (List ℕ)) → MayLeave (files.disk left) bytes
      → (bytes ≡ (stored_in files left).content) ⊎ MayLeave (files.disk from) bytes)
      → KeepsDurable files (digits_of settings) state.account from left after)
  pub trusts : (from left : F) (bytes : List ℕ) → IsUndoubted (files.disk from)
      → (stored_in files left).content ≡ Some bytes → TrustsRecord files from left
  pub trusts_mbox : (from left : Devices F F) (bytes : List ℕ) → IsUndoubted (files.disk from.file)
      → IsUndoubted (files.disk from.store) → IsUndoubted (files.disk left.store)
      → (stored_in files left.file).content ≡ Some bytes → TrustsMbox files from left
  pub counts : (from left : F) (calls kept : ℕ) (outcome : Outcome) (rows rows' : List Row)
      → TrustsRecord files from left
      → CountsOn (TrustsRecord files from left) (files.disk from) calls kept outcome rows rows' kept
      × (outcome ≡ Ended → (rows' ≢ rows) ⊎ LeavesRows (files.disk from) (ShowsAll rows)
      → CountsOn (TrustsRecord files from left) (files.disk from) calls kept outcome rows rows' (calls + 1))
  pub entries : (base : Base) (all : List Message)
      → AllByRecursion (λ (m : Message). (is_legal_id m.uid ≡ true) × (m.text ≡ base.text m.uid) × IsWhole m.text) all
      → AreDistinct (message_ids all) → IsMaildrop (IsTextOf base) all
  pub unbegun : (account : MboxMail) (id : List ℕ) → is_delivered account.rows id ≡ false
      → ((intent : Intent) → account.intent ≡ Some intent → bytes_eq intent.uid id ≡ false) → IsUnbegun account id
