-- Mail in order: what `headline` and `mbox_headline` say in words. What a reader took away counts as held here, and
-- what was withdrawn from the server before it was fetched isn't part of its mail.
use Rattle.std.specs.{
  Prelude.{◌≡◌, ◌⊎◌, ◌≤◌, ℕ, true, false, List, [], ◌∷◌, ◌++◌, map, take, length, None, Some, bytes_eq},
  List.AllByRecursion,
}
use Rattle.pop3_wire.specs.{World.{Message, maildrop_of}, declared.wire.Wire.Ghosts as WireGhosts}
use Rattle.mail_terms.specs.UniqueId.{is_legal_id, has_id}
use Rattle.rc_file.specs.declared.settings.Settings.{Settings}
use Rattle.fetch_record.specs.Record.{Intent, is_delivered}
use Rattle.fetch_rules.specs.Limits.{SetsSizeLimit}
use Rattle.mail_store.specs.{
  FileName.{IsAccountText, is_held, stem_of},
  Mboxrd.MboxFile,
  declared.{file.flat_file.FlatFile.Ghosts as FileGhosts, maildir.disk.MaildirDisk.Ghosts as DiskGhosts},
}
use Rattle.session_parts.specs.{
  Account.digits_of,
  declared.work.Store.TheVariants.{Maildir as InMaildir, Mboxrd as InMbox},
}
use Rattle.fetch_runs.specs.{
  Accounts.{AccountMail, copies, files, message_ids, selected, texts_of, without},
  Sessions.MboxMail,
  Promises.{Call, ComesFor, Devices, IsBetween, IsFront, IsMaildrop, IsSafe, Invariant, Mail, State, is_safe},
  Promises.{AppendsMail, Base, HoldsEntries, IsMboxFront, IsTextOf, OneComes, base_from, is_entered, state_with},
  Order.HoldsNoMore,
  Calls.{BeginsWithEntries, Called, Happening, IsCall, IsLeftByLoss, IsMboxLeftByLoss, IsPromised, Left},
  Calls.{Lost, Shows, ShowsMbox, with_left},
  Losses.{TrustsMbox, IsCrashSafe, IsDurableFront, IsMboxSafe},
}

-- a session's limit on sizes is this one, and its maildrop is a beginning of all mail, without messages of such ids
pub record IsInOrder (limit : ℕ) (all : List Message) (IsDone : List ℕ → Type 0) (settings : Settings)
    (maildrop : List Message) : Type 0 where
  pub sizes : SetsSizeLimit settings limit
  pub come : ℕ
  pub gone : List (List ℕ)
  pub done : AllByRecursion IsDone gone
  pub shown : maildrop ≡ maildrop_of all come gone

-- whose mail it is, or what the mboxrd file began with; the limit on sizes; and all mail that ever comes, in order of
-- arrival, without what was withdrawn
pub record World (Start : Type 0) : Type 0 where
  pub start : Start
  pub size_limit : ℕ
  pub all : List Message

-- all mail goes on without the messages that are withdrawn
abbrev pub world_without : {Start : Type 0} → List (List ℕ) → World Start → World Start
world_without ids world = record world { all = without ids world.all }

abbrev pub selected_of : {Start : Type 0} → World Start → List Message
selected_of world = selected world.size_limit world.all

-- ---- with a Maildir

-- the account's text is one; unique-ids are legal and distinct, and one text comes for each
pub record IsSound (world : World Mail) : Type 0 where
  pub account : IsAccountText world.start.account
  pub all : IsMaildrop (ComesFor world.start) world.all
  pub one : OneComes world.start

-- each of the first j of the selected messages is in one file with its text, or was taken away and is in none; and no
-- other message is held
pub record HoldsAPrefix (world : World Mail) (state : State) : Type 0 where
  pub j : ℕ
  pub below : j ≤ length (selected_of world)
  pub texts : (id : List ℕ) → is_legal_id id ≡ true → (copies (files state.account) (stem_of world.start.account id)
      ≡ texts_of (take j (selected_of world)) id)
      ⊎ ((state.taken id ≡ true) × (copies (files state.account) (stem_of world.start.account id) ≡ []))
  pub ids : (id : List ℕ) → is_legal_id id ≡ true → is_held world.start.account state.account.maildir id ≡ true
      → has_id (message_ids (take j (selected_of world))) id ≡ true

-- a law: exactly the first of any messages, none of them, are held or were taken away, if nothing is
abbrev pub EmptyFrontsBegin : Type 0
EmptyFrontsBegin = (mail : Mail) (state : State) (all : List Message)
    → ((id : List ℕ) → is_legal_id id ≡ true → is_safe mail state id ≡ false) → IsFront mail state all

-- a law: if what is held stays so, and nothing counts as taken away, nothing does afterwards
abbrev pub NoneTaken : Type 0
NoneTaken = (mail : Mail) (state : State) (after : AccountMail) → ((id : List ℕ) → state.taken id ≡ false)
    → ((id : List ℕ) → is_held mail.account state.account.maildir id ≡ true
    → is_held mail.account after.maildir id ≡ true)
    → (id : List ℕ) → (state_with mail state [] after).taken id ≡ false

-- a law: a call that reads only what is new doesn't store a message again that is recorded as delivered and isn't held
abbrev pub TakenStaysAway : {W D F : Type 0} → WireGhosts W → DiskGhosts D → FileGhosts F → Type 0
TakenStaysAway {W} {D} {F} link disk file = (mail : Mail) (state : State) (devices : Devices D F) (call : Call W D F)
    (id : List ℕ) → IsAccountText mail.account → IsMaildrop (ComesFor mail) call.maildrop
    → (is : IsPromised link disk file mail state devices call) → call.settings.read_all ≡ false
    → is_legal_id id ≡ true → is_delivered state.account.rows id ≡ true → is_held mail.account is.left id ≡ false
    → (is_delivered is.after.rows id ≡ true) × (is_held mail.account is.after.maildir id ≡ false)

-- the devices show a state that holds a prefix. If messages that are neither held nor were taken away are withdrawn,
-- and the next call shows a beginning of all mail but for some that are held or were taken away and meets no odd name,
-- it keeps its promises, and a prefix is held after it; and so on. So it is of what others leave, if they put only
-- messages back that were held or taken away, and after a loss of power, if it can do no harm and all that is held is
-- durable, but perhaps the last
abbrev pub HoldPrefixes : {W D F : Type 0} → WireGhosts W → DiskGhosts D → FileGhosts F → World Mail → State
    → Devices D F → List (Happening (Call W D F) (Devices D F) AccountMail) → Type 0
HoldPrefixes link disk file world state devices [] = Shows disk file devices state.account × HoldsAPrefix world state
HoldPrefixes link disk file world state devices (Called call ∷ later) = Shows disk file devices state.account
    × HoldsAPrefix world state × ((withdrawn : List (List ℕ))
    → AllByRecursion (λ id. is_safe world.start state id ≡ false) withdrawn
    → let next = world_without withdrawn world in
    IsInOrder next.size_limit next.all (IsSafe world.start state) call.settings call.maildrop
    → digits_of call.settings ≡ world.start.account
    → IsCall link disk file InMaildir disk.sound (ComesFor world.start) devices call
    → (disk.maildir call.after.store).odd ≡ [] → (is : IsPromised link disk file world.start state devices call)
    × let new = state_with world.start (with_left world.start state is.left) call.vanished is.after in
    (IsDurableFront world.start state (selected_of world) → IsDurableFront world.start new (selected_of next))
    × HoldPrefixes link disk file next new call.after later)
HoldPrefixes link disk file world state devices (Left left account ∷ later) = Shows disk file devices state.account
    × HoldsAPrefix world state × (Shows disk file left account → IsBetween world.start state.account account
    → HoldsNoMore world.start state account
    → HoldPrefixes link disk file world (state_with world.start state [] account) left later)
HoldPrefixes link disk file world state devices (Lost left account ∷ later) = Shows disk file devices state.account
    × HoldsAPrefix world state × (IsCrashSafe (file.disk devices.file) world.start state
    → IsDurableFront world.start state (selected_of world) → IsLeftByLoss disk file devices left account
    → HoldPrefixes link disk file world (record state { account = account }) left later)

-- the law: so it is from each state with the invariant in which exactly the first of the selected messages are held
-- or were taken away, as one in which nothing is
abbrev pub Headline : {W D F : Type 0} → WireGhosts W → DiskGhosts D → FileGhosts F → Type 0
Headline {W} {D} {F} link disk file = (world : World Mail) (state : State) (devices : Devices D F)
    (list : List (Happening (Call W D F) (Devices D F) AccountMail)) → IsSound world
    → Shows disk file devices state.account → Invariant world.start state
    → IsFront world.start state (selected_of world) → HoldPrefixes link disk file world state devices list

-- ---- with an mboxrd file

-- the entries are those of exactly a prefix of the selected messages, but for those that were recorded before the first
-- session
pub record HoldsAMboxPrefix (world : World Base) (done : List Message) (account : MboxMail) : Type 0 where
  pub holds : HoldsEntries world.start done account
  pub front : IsMboxFront world.start holds (selected_of world)

-- the message isn't recorded as delivered, and no intent is open for it
abbrev pub IsUnbegun : MboxMail → List ℕ → Type 0
IsUnbegun account id = (is_delivered account.rows id ≡ false)
    × ((intent : Intent) → account.intent ≡ Some intent → bytes_eq intent.uid id ≡ false)

-- a law: it may begin with any file, and with a record that has no open intent and shows exactly a prefix of the
-- selected messages as delivered, as an empty one does; also after others wrote
abbrev pub MboxFrontsBegin : Type 0
MboxFrontsBegin = (world : World Base) (account : MboxMail) (first rest : List Message) → account.intent ≡ None
    → selected_of world ≡ first ++ rest
    → ((id : List ℕ) → is_delivered account.rows id ≡ has_id (message_ids first) id)
    → HoldsAMboxPrefix (record world { start = base_from world.start account }) [] account

-- a law: if the first file holds texts, the file without an open intent holds the same, and then those of these
-- messages
abbrev pub EntriesMeanTexts : Type 0
EntriesMeanTexts = (base : Base) (done : List Message) (account : MboxMail) (first : List (List ℕ))
    → HoldsEntries base done account
    → account.intent ≡ None → MboxFile base.start first
    → MboxFile account.file (first ++ map (λ (m : Message). m.text) done)

-- the devices show an account whose file holds a prefix. If messages that weren't begun are withdrawn, and the next
-- call shows a beginning of all mail but for some that are entered, it appends entries and keeps its promises, and a
-- prefix is held after it; and so on. What others left holds a prefix after some bytes, as each account in order does
-- without an open intent (`mbox_fronts_begin`); and so does what a loss of power left, if whatever it might leave
-- does, and begins nothing that is withdrawn, which calls keep: it keeps all entries, in their order
abbrev pub HoldMboxPrefixes : {W D F : Type 0} → WireGhosts W → DiskGhosts D → FileGhosts F → World Base → List Message
    → MboxMail → Devices F F → List (Happening (Call W F F) (Devices F F) MboxMail) → Type 0
HoldMboxPrefixes link disk file world done account devices [] =
    ShowsMbox file devices account × HoldsAMboxPrefix world done account
HoldMboxPrefixes link disk file world done account devices (Called call ∷ later) = ShowsMbox file devices account
    × (is : HoldsAMboxPrefix world done account) × ((withdrawn : List (List ℕ))
    → AllByRecursion (IsUnbegun account) withdrawn → let next = world_without withdrawn world in
    IsInOrder next.size_limit next.all (λ id. is_entered world.start done id ≡ true) call.settings call.maildrop
    → call.settings.read_all ≡ false → IsCall link disk file InMbox file.sound (IsTextOf world.start) devices call
    → (sent : List ℕ) × (after : MboxMail) × ((link.history call.wire').sent ≡ (link.history call.wire).sent ++ sent)
    × ShowsMbox file call.after after × (appends : AppendsMail world.start is.holds call sent after)
    × (TrustsMbox file devices call.after → IsMboxSafe (λ first seen. HoldsAMboxPrefix world first seen
    × AllByRecursion (IsUnbegun seen) withdrawn) file devices → IsMboxSafe (HoldsAMboxPrefix next) file call.after)
    × HoldMboxPrefixes link disk file next (done ++ appends.more) after call.after later)
HoldMboxPrefixes link disk file world done account devices (Left left now ∷ later) = ShowsMbox file devices account
    × HoldsAMboxPrefix world done account × (ShowsMbox file left now → (from : Base) (held : List Message)
    → IsMaildrop (IsTextOf from) world.all → let next = record world { start = from } in HoldsAMboxPrefix next held now
    → HoldMboxPrefixes link disk file next held now left later)
HoldMboxPrefixes link disk file world done account devices (Lost left now ∷ later) = ShowsMbox file devices account
    × HoldsAMboxPrefix world done account × (IsMboxSafe (HoldsAMboxPrefix world) file devices
    → IsMboxLeftByLoss file devices left now → BeginsWithEntries world.start done now.file
    × IsMboxSafe (HoldsAMboxPrefix world) file left
    × ((held : List Message) × HoldMboxPrefixes link disk file world held now left later))

-- the law: so it is from each such account
abbrev pub MboxHeadline : {W D F : Type 0} → WireGhosts W → DiskGhosts D → FileGhosts F → Type 0
MboxHeadline {W} {D} {F} link disk file = (world : World Base) (done : List Message) (account : MboxMail)
    (devices : Devices F F) (list : List (Happening (Call W F F) (Devices F F) MboxMail))
    → IsMaildrop (IsTextOf world.start) world.all → ShowsMbox file devices account → HoldsAMboxPrefix world done account
    → HoldMboxPrefixes link disk file world done account devices list
