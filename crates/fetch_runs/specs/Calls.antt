-- Calls of `session`, and what others do between them, over the account's devices: what is promised of any list of
-- these. Nobody has to know what a session does.
use Rattle.std.specs.Prelude.{◌≡◌, ℕ, true, List, [], ◌∷◌, ◌++◌, Option, false}
use Rattle.pop3_wire.specs.{World.Message, declared.wire.Wire.Ghosts as WireGhosts}
use Rattle.mail_terms.specs.UniqueId.{is_legal_id, has_id}
use Rattle.rc_file.specs.declared.settings.Settings.{Settings}
use Rattle.fetch_record.specs.{Record.Intent, RecordMeaning.FileStandsFor}
use Rattle.mail_store.specs.{
  Devices.stored_in,
  Durable.MayLeave,
  Loss.LosesPower,
  FileName.stem_of,
  Maildir.{Maildir, WereTaken},
  declared.{file.flat_file.FlatFile.Ghosts as FileGhosts, maildir.disk.MaildirDisk.Ghosts as DiskGhosts},
}
use Rattle.session_parts.specs.{
  Account.{Holding, digits_of},
  declared.work.Store.{Store, TheVariants.{Maildir as InMaildir, Mboxrd as InMbox}},
  Target.mail_in,
}
use Rattle.fetch_session.specs.Visits.{WasMade}
use Rattle.fetch_runs.specs.{
  Accounts.{AccountMail, copies, files, message_ids},
  Sessions.{Served, MboxMail, entries_of},
  Promises.{AppendsMail, Base, Call, ComesFor, Devices, HoldsEntries, IsBetween, IsMaildrop, IsTextOf, Invariant, Mail},
  Promises.{Promises, State, state_with},
  Losses.{IsCrashSafe, IsFileLeft, IsMboxSafe, KeepsDurable, TrustsMbox, TrustsRecord},
}

-- ---- one call

-- the account with these settings over these devices, whose store is of this kind
abbrev pub account_over : {D F S : Type 0} → (S → Store D F) → Settings → Devices S F → Holding D F
account_over In settings devices = record { settings = settings; store = In devices.store; file = devices.file }

-- a call was made with devices that do what their traits say, and all that the link gained came from an honest server
pub record IsCall {W D F S : Type 0} (link : WireGhosts W) (disk : DiskGhosts D) (file : FileGhosts F)
    (In : S → Store D F) (is_sound : S → Type 0) (Comes : List ℕ → List ℕ → Type 0) (devices : Devices S F)
    (call : Call W S F) : Type 0 where
  pub made : WasMade link disk file call.now (account_over In call.settings devices) call.wire call.report
      (account_over In call.settings call.after) call.wire'
  pub link_sound : link.sound call.wire'
  pub store_sound : is_sound call.after.store
  pub file_sound : file.sound call.after.file
  pub maildrop : IsMaildrop Comes call.maildrop
  pub served : (sent got : List ℕ) → (link.history call.wire').sent ≡ (link.history call.wire).sent ++ sent
      → (link.history call.wire').got ≡ (link.history call.wire).got ++ got
      → Served call.maildrop sent got call.vanished

-- ---- with a Maildir

-- the devices show this account: these rows, for which the record's file stands, and this Maildir
pub record Shows {D F : Type 0} (disk : DiskGhosts D) (file : FileGhosts F) (devices : Devices D F)
    (account : AccountMail) : Type 0 where
  pub intent : Option Intent
  pub record_is : FileStandsFor (stored_in file devices.file).content account.rows intent
  pub maildir : account.maildir ≡ disk.maildir devices.store

-- the state with what readers left of its Maildir
abbrev pub with_left : Mail → State → Maildir → State
with_left mail state left = state_with mail state [] (record state.account { maildir = left })

-- readers were seen to take files away during the call, and none was besides; over what they left it was a session that
-- kept its promises. A loss of power can do no more harm after it than before
pub record IsPromised {W D F : Type 0} (link : WireGhosts W) (disk : DiskGhosts D) (file : FileGhosts F) (mail : Mail)
    (state : State) (devices : Devices D F) (call : Call W D F) : Type 0 where
  pub left : Maildir
  pub taken : WereTaken state.account.maildir left
  pub sent : List ℕ
  pub after : AccountMail
  pub sent_is : (link.history call.wire').sent ≡ (link.history call.wire).sent ++ sent
  pub shows : Shows disk file call.after after
  pub taken_is : after.maildir.taken ≡ left.taken
  pub promises : Promises mail (with_left mail state left) call sent after
  pub safe : TrustsRecord file devices.file call.after.file → IsCrashSafe (file.disk devices.file) mail state
      → IsCrashSafe (file.disk call.after.file) mail (state_with mail (with_left mail state left) call.vanished after)

-- a loss of power left this account, whose record can be read, and new devices over it, of which all is durable
pub record IsLeftByLoss {D F : Type 0} (disk : DiskGhosts D) (file : FileGhosts F) (from left : Devices D F)
    (account : AccountMail) : Type 0 where
  pub maildir : LosesPower (disk.maildir from.store) (disk.maildir left.store)
  pub record_is : IsFileLeft file from.file left.file
  pub shows : Shows disk file left account

-- ---- any list of calls

-- a call; or others left these devices, which show this account; or a loss of power did
pub data Happening (Call Devices Account : Type 0) : Type 0 where
  Called : Call → Happening Call Devices Account
  Left : Devices → Account → Happening Call Devices Account
  Lost : Devices → Account → Happening Call Devices Account

-- the devices show a state with the invariant; if the next of these happens, a call keeps its promises, and they do so
-- after it, and after others or a loss of power. What such a loss takes, if it can do no harm, isn't taken away
abbrev pub ArePromised : {W D F : Type 0} → WireGhosts W → DiskGhosts D → FileGhosts F → Mail → State → Devices D F
    → List (Happening (Call W D F) (Devices D F) AccountMail) → Type 0
ArePromised link disk file mail state devices [] = Shows disk file devices state.account × Invariant mail state
ArePromised link disk file mail state devices (Called call ∷ later) = Shows disk file devices state.account
    × Invariant mail state × (digits_of call.settings ≡ mail.account → IsCall link disk file InMaildir disk.sound
    (ComesFor mail) devices call → (is : IsPromised link disk file mail state devices call)
    × ArePromised link disk file mail (state_with mail (with_left mail state is.left) call.vanished is.after)
    call.after later)
ArePromised link disk file mail state devices (Left left account ∷ later) = Shows disk file devices state.account
    × Invariant mail state × (Shows disk file left account → IsBetween mail state.account account
    → let next = state_with mail state [] account in
    (KeepsDurable file mail.account state.account devices.file left.file account
    → IsCrashSafe (file.disk devices.file) mail state → IsCrashSafe (file.disk left.file) mail next)
    × ArePromised link disk file mail next left later)
ArePromised link disk file mail state devices (Lost left account ∷ later) = Shows disk file devices state.account
    × Invariant mail state × (IsCrashSafe (file.disk devices.file) mail state
    → IsLeftByLoss disk file devices left account
    → let next : State = record state { account = account } in IsCrashSafe (file.disk left.file) mail next
    × ArePromised link disk file mail next left later)

-- the law: so it is of any list of calls, of what others leave and of losses of power, from a state with the invariant
abbrev pub CallsKeepPromises : {W D F : Type 0} → WireGhosts W → DiskGhosts D → FileGhosts F → Type 0
CallsKeepPromises {W} {D} {F} link disk file = (mail : Mail) (state : State) (devices : Devices D F)
    (list : List (Happening (Call W D F) (Devices D F) AccountMail)) → Shows disk file devices state.account
    → Invariant mail state → ArePromised link disk file mail state devices list

-- a law: a record without rows and a Maildir without files of the account are a state with the
-- invariant
abbrev pub EmptyAccountsHold : Type 0
EmptyAccountsHold = (mail : Mail) (state : State) → state.account.rows ≡ [] → state.gone ≡ []
    → ((id : List ℕ) → is_legal_id id ≡ true → copies (files state.account) (stem_of mail.account id) ≡ [])
    → Invariant mail state

-- ---- with an mboxrd file

-- the devices show this account: these rows and this intent, for which the record's file stands, and these bytes
pub record ShowsMbox {F : Type 0} (file : FileGhosts F) (devices : Devices F F) (account : MboxMail) : Type 0 where
  pub record_is : FileStandsFor (stored_in file devices.file).content account.rows account.intent
  pub bytes : account.file ≡ mail_in (stored_in file devices.store).content

-- a loss of power left this account, whose record can be read, and new devices over it, of which all is durable
pub record IsMboxLeftByLoss {F : Type 0} (file : FileGhosts F) (from left : Devices F F) (account : MboxMail)
    : Type 0 where
  pub mbox_is : IsFileLeft file from.store left.store
  pub record_is : IsFileLeft file from.file left.file
  pub shows : ShowsMbox file left account

-- after what it began with the file has the entries of these messages, and then perhaps a part of one more
abbrev pub BeginsWithEntries : Base → List Message → List ℕ → Type 0
BeginsWithEntries base done bytes = (part : List ℕ) × (bytes ≡ (base.start ++ entries_of done) ++ part)

-- the file has the entries of the same messages, each once
pub record KeepsEntries (base : Base) (done : List Message) (bytes : List ℕ) : Type 0 where
  pub kept : List Message
  pub are : IsMaildrop (IsTextOf base) kept
  pub same : (id : List ℕ) → has_id (message_ids kept) id ≡ has_id (message_ids done) id
  pub begins : BeginsWithEntries base kept bytes

-- the devices show an account whose file holds these entries, and they do so after a call that reads only what is new,
-- after others, who leave entries after some bytes (see `mbox_starts`), and after a loss of power, if all that it may
-- leave does so
abbrev pub AreMboxPromised : {W D F : Type 0} → WireGhosts W → DiskGhosts D → FileGhosts F → Base → List Message
    → MboxMail → Devices F F → List (Happening (Call W F F) (Devices F F) MboxMail) → Type 0
AreMboxPromised link disk file base done account devices [] =
    ShowsMbox file devices account × HoldsEntries base done account
AreMboxPromised link disk file base done account devices (Called call ∷ later) = ShowsMbox file devices account
    × (holds : HoldsEntries base done account) × (call.settings.read_all ≡ false
    → IsCall link disk file InMbox file.sound (IsTextOf base) devices call → (sent : List ℕ) × (after : MboxMail)
    × ((link.history call.wire').sent ≡ (link.history call.wire).sent ++ sent) × ShowsMbox file call.after after
    × (appends : AppendsMail base holds call sent after)
    × (TrustsMbox file devices call.after → IsMboxSafe (HoldsEntries base) file devices
    → IsMboxSafe (HoldsEntries base) file call.after)
    × AreMboxPromised link disk file base (done ++ appends.more) after call.after later)
AreMboxPromised link disk file base done account devices (Left left now ∷ later) = ShowsMbox file devices account
    × HoldsEntries base done account × (ShowsMbox file left now → (from : Base) (first : List Message)
    → HoldsEntries from first now → AreMboxPromised link disk file from first now left later)
AreMboxPromised link disk file base done account devices (Lost left now ∷ later) = ShowsMbox file devices account
    × HoldsEntries base done account × (IsMboxSafe (HoldsEntries base) file devices
    → IsMboxLeftByLoss file devices left now → KeepsEntries base done now.file
    × IsMboxSafe (HoldsEntries base) file left
    × ((first : List Message) × AreMboxPromised link disk file base first now left later))

-- the law: so it is of any list of calls and of what others and losses of power leave
abbrev pub MboxCallsKeepPromises : {W D F : Type 0} → WireGhosts W → DiskGhosts D → FileGhosts F → Type 0
MboxCallsKeepPromises {W} {D} {F} link disk file = (base : Base) (done : List Message) (account : MboxMail)
    (devices : Devices F F) (list : List (Happening (Call W F F) (Devices F F) MboxMail))
    → ShowsMbox file devices account → HoldsEntries base done account
    → AreMboxPromised link disk file base done account devices list

-- a law: an account that holds entries is safe if nothing else may be left of both files than what calls see
abbrev pub DurableMboxesAreSafe : {F : Type 0} → FileGhosts F → Type 0
DurableMboxesAreSafe {F} file = (base : Base) (done : List Message) (account : MboxMail) (devices : Devices F F)
    → ShowsMbox file devices account → HoldsEntries base done account
    → ((left : Option (List ℕ)) → MayLeave (file.disk devices.file) left → left ≡ (stored_in file devices.file).content)
    → ((left : Option (List ℕ)) → MayLeave (file.disk devices.store) left → left ≡
    (stored_in file devices.store).content)
    → IsMboxSafe (HoldsEntries base) file devices
