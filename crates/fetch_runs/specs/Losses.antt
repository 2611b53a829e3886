-- What of an account with a Maildir is durable, so that a loss of power between two calls, whatever it takes, leaves a
-- state from which the next call goes on; and what calls and others keep of that.
use Rattle.std.specs.{
  Prelude.{◌≡◌, ◌⊎◌, ◌||◌, ◌≤◌, ℕ, Bool, true, List, ◌++◌, Option, None, length},
  List.AllByRecursion,
}
use Rattle.mail_store.specs.{
  Devices.stored_in,
  Durable.{Disk, Trusted, MayLeave},
  FileName.{is_held, names_id},
  Maildir.{File, IsDurableFile},
  declared.file.flat_file.FlatFile.Ghosts as FileGhosts,
}
use Rattle.mail_terms.specs.UniqueId.{is_legal_id}
use Rattle.pop3_wire.specs.World.{Message}
use Rattle.fetch_record.specs.{Record.{Intent, Row, is_delivered}, RecordMeaning.FileStandsFor}
use Rattle.fetch_runs.specs.{
  Accounts.{AccountMail, has_named},
  Promises.{Devices, Mail, State, IsFront, Invariant},
  Sessions.MboxMail,
}
use Rattle.session_parts.specs.{Target.mail_in, declared.report.Outcome.{Outcome, TheVariants.Ended}}

-- a file of the message is there whose name is durable, or the message was taken away
abbrev pub is_durable : Mail → State → List ℕ → Bool
is_durable mail state id = has_named mail.account state.account.maildir id || state.taken id

-- the bytes of a file are durable, if it is one of the account
abbrev pub IsFlushedFor : List ℕ → File → Type 0
IsFlushedFor account f = (id : List ℕ) → is_legal_id id ≡ true → names_id account id f.name ≡ true
    → f.is_flushed ≡ true

-- its name too
abbrev pub IsDurableFor : List ℕ → File → Type 0
IsDurableFor account f = (id : List ℕ) → is_legal_id id ≡ true → names_id account id f.name ≡ true → IsDurableFile f

-- this holds of the rows that whatever a loss of power may leave of the record's file stands for
abbrev pub LeavesRows : Disk → (List Row → Type 0) → Type 0
LeavesRows disk Is = (left : Option (List ℕ)) (rows : List Row) (intent : Option Intent) → MayLeave disk left
    → FileStandsFor left rows intent → Is rows

-- what a record that a loss of power may leave shows as delivered, and what is gone from the server, has a file whose
-- name is durable, or was taken away; and the bytes of the account's files are durable
pub record IsCrashSafe (disk : Disk) (mail : Mail) (state : State) : Type 0 where
  pub flushed : AllByRecursion (IsFlushedFor mail.account) state.account.maildir.files
  pub left : LeavesRows disk (λ rows. (id : List ℕ) → is_delivered rows id ≡ true
      → (is_legal_id id ≡ true) × (is_durable mail state id ≡ true))
  pub gone : AllByRecursion (λ id. is_durable mail state id ≡ true) state.gone

-- these rows show what those show as delivered
abbrev pub ShowsAll : List Row → List Row → Type 0
ShowsAll was rows = (id : List ℕ) → is_delivered was id ≡ true → is_delivered rows id ≡ true

-- whatever may be left of the record's file after a call could be left before, or shows what the record showed. If the
-- call was uncut, the record is as it was, or whatever may be left shows all that it shows
pub record KeepsRecorded (disk disk' : Disk) (rows rows' : List Row) (outcome : Outcome) : Type 0 where
  pub left : (left : Option (List ℕ)) (shown : List Row) (intent : Option Intent) → MayLeave disk' left
      → FileStandsFor left shown intent → MayLeave disk left ⊎ ShowsAll rows shown
  pub uncut : outcome ≡ Ended → (rows' ≡ rows) ⊎ LeavesRows disk' (ShowsAll rows')

-- no flush of the record's file was refused before a call, and if no such file is left, a loss of power leaves none
abbrev pub TrustsRecord : {F : Type 0} → FileGhosts F → F → F → Type 0
TrustsRecord file from f = Trusted (file.disk from).now
    × ((stored_in file f).content ≡ None → (left : Option (List ℕ)) → MayLeave (file.disk f) left → left ≡ None)

-- nor of an mboxrd file, before it or in it; without a record's file a loss of power leaves of this what calls see
abbrev pub TrustsMbox : {F : Type 0} → FileGhosts F → Devices F F → Devices F F → Type 0
TrustsMbox file from left = TrustsRecord file from.file left.file × Trusted (file.disk from.store).now
    × Trusted (file.disk left.store).now × ((stored_in file left.file).content ≡ None
    → (bytes : Option (List ℕ)) → MayLeave (file.disk left.store) bytes → bytes ≡ (stored_in file left.store).content)

-- whatever a loss of power leaves of both files, if the record can be read, this holds of some messages and the account
abbrev pub IsMboxSafe : {F : Type 0} → (List Message → MboxMail → Type 0) → FileGhosts F → Devices F F → Type 0
IsMboxSafe Holds file devices = (rows : List Row) (intent : Option Intent) (left bytes : Option (List ℕ))
    → MayLeave (file.disk devices.file) left → FileStandsFor left rows intent → MayLeave (file.disk devices.store) bytes
    → (done : List Message) × Holds done (record { rows = rows; intent = intent; file = mail_in bytes })

-- a loss of power left what this file holds, and of the new device over it nothing else may be left
pub record IsFileLeft {F : Type 0} (file : FileGhosts F) (from left : F) : Type 0 where
  pub is : MayLeave (file.disk from) (stored_in file left).content
  pub durable : (bytes : Option (List ℕ)) → MayLeave (file.disk left) bytes → bytes ≡ (stored_in file left).content

-- what others leave of files is durable, and durable names stay so; of the record may be left what it holds, or what
-- could be left before
pub record KeepsDurable {F : Type 0} (file : FileGhosts F) (account : List ℕ) (before : AccountMail) (from f : F)
    (after : AccountMail) : Type 0 where
  pub named : (id : List ℕ) → is_legal_id id ≡ true → has_named account before.maildir id ≡ true
      → is_held account after.maildir id ≡ true → has_named account after.maildir id ≡ true
  pub flushed : AllByRecursion (IsFlushedFor account) after.maildir.files
  pub record_is : (left : Option (List ℕ)) → MayLeave (file.disk f) left
      → (left ≡ (stored_in file f).content) ⊎ MayLeave (file.disk from) left

-- a law: a state with the invariant is safe if the files of the account are durable and nothing else may be left of the
-- record's file than what it holds
abbrev pub DurableAccountsAreSafe : {F : Type 0} → FileGhosts F → Type 0
DurableAccountsAreSafe {F} file = (f : F) (mail : Mail) (state : State) (intent : Option Intent) → Invariant mail state
    → FileStandsFor (stored_in file f).content state.account.rows intent
    → AllByRecursion (IsDurableFor mail.account) state.account.maildir.files
    → ((left : Option (List ℕ)) → MayLeave (file.disk f) left → left ≡ (stored_in file f).content)
    → IsCrashSafe (file.disk f) mail state

-- exactly the first of these messages are held or were taken away, and all of them but perhaps the last are durable
pub record IsDurableFront (mail : Mail) (state : State) (all : List Message) : Type 0 where
  pub is : IsFront mail state all
  pub first : List Message
  pub last : List Message
  pub done : is.done ≡ first ++ last
  pub at_most_one : length last ≤ 1
  pub named : AllByRecursion (λ (m : Message). is_durable mail state m.uid ≡ true) first

-- `IsDurableFront` holds afterwards of each list of messages of which it held before
abbrev pub KeepsFronts : Mail → State → State → Type 0
KeepsFronts mail before after = (all : List Message) → AllByRecursion (λ (m : Message). is_legal_id m.uid ≡ true) all
    → IsDurableFront mail before all → IsDurableFront mail after all

-- a law: so it is, if these are in order and the files of the account are durable
abbrev pub DurableFrontsBegin : Type 0
DurableFrontsBegin = (mail : Mail) (state : State) (all : List Message)
    → AllByRecursion (λ (m : Message). is_legal_id m.uid ≡ true) all → IsFront mail state all
    → AllByRecursion (IsDurableFor mail.account) state.account.maildir.files → IsDurableFront mail state all
