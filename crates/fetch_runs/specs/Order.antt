-- What each call keeps besides its promises: the order of messages and what of it is durable, and what may be left of
-- the record; and what others and losses of power keep of that order.
use Rattle.std.specs.{
  Prelude.{◌≡◌, ℕ, false, not, true, List, [], ◌++◌},
  List.{AllByRecursion, filter},
}
use Rattle.pop3_wire.specs.{World.Message, declared.wire.Wire.Ghosts as WireGhosts}
use Rattle.mail_terms.specs.UniqueId.{has_id, is_legal_id}
use Rattle.mail_store.specs.{
  FileName.is_held,
  declared.{file.flat_file.FlatFile.Ghosts as FileGhosts, maildir.disk.MaildirDisk.Ghosts as DiskGhosts},
}
use Rattle.session_parts.specs.{
  Account.digits_of,
  declared.work.Store.TheVariants.{Maildir as InMaildir, Mboxrd as InMbox},
}
use Rattle.fetch_runs.specs.{
  Accounts.{AccountMail, message_ids},
  Sessions.MboxMail,
  Promises.{AppendsMail, Base, Call, ComesFor, Devices, HoldsEntries, Invariant, IsFront, IsMboxFront},
  Promises.{IsTextOf, Mail, ShowsNext, State, is_safe, state_with},
  Losses.{IsDurableFront, KeepsDurable, KeepsFronts, KeepsRecorded, TrustsMbox, TrustsRecord},
  Calls.{IsCall, IsLeftByLoss, IsPromised, Shows, ShowsMbox, with_left},
}

-- ---- with a Maildir

-- if exactly the first of some messages were held or taken away, and the server shows what is next of them, it is so
-- after a call that met no odd name: then those are done that were, and what came
abbrev pub AddsToFronts : {W S F : Type 0} → Mail → State → Call W S F → List Message → AccountMail → Type 0
AddsToFronts mail state call came after = (all : List Message)
    → AllByRecursion (λ (m : Message). is_legal_id m.uid ≡ true) all → (front : IsFront mail state all)
    → ShowsNext call.settings call.maildrop front.done front.rest → after.maildir.odd ≡ []
    → (later : IsFront mail (state_with mail state call.vanished after) all)
    × (later.done ≡ front.done ++ filter (λ (m : Message). not (has_id (message_ids front.done) m.uid)) came)

-- what a call that kept its promises kept besides: so it is over what readers left, and all but perhaps the last are
-- durable, if it was so before; and a loss of power can take no more of what is recorded
pub record KeepsOrder {W D F : Type 0} {link : WireGhosts W} {disk : DiskGhosts D} (file : FileGhosts F) {mail : Mail}
    {state : State} {devices : Devices D F} {call : Call W D F} (is : IsPromised link disk file mail state devices call)
    : Type 0 where
  pub in_order : AddsToFronts mail (with_left mail state is.left) call is.promises.came is.after
  pub durable : (all : List Message) → AllByRecursion (λ (m : Message). is_legal_id m.uid ≡ true) all
      → (front : IsDurableFront mail state all) → ShowsNext call.settings call.maildrop front.is.done front.is.rest
      → is.after.maildir.odd ≡ []
      → IsDurableFront mail (state_with mail (with_left mail state is.left) call.vanished is.after) all
  pub recorded : TrustsRecord file devices.file call.after.file → KeepsRecorded (file.disk devices.file)
      (file.disk call.after.file) state.account.rows is.after.rows call.report.outcome

-- of the account's messages no other is held than such as were held or taken away
abbrev pub HoldsNoMore : Mail → State → AccountMail → Type 0
HoldsNoMore mail state after = (id : List ℕ) → is_legal_id id ≡ true
    → is_held mail.account after.maildir id ≡ true → is_safe mail state id ≡ true

-- a law: from a state with the invariant on each call keeps its promises, this, and the invariant; others keep the
-- order and what of it is durable, if they hold no more and leave it as durable, and so does a loss of power
pub record CallsKeepOrder {W D F : Type 0} (link : WireGhosts W) (disk : DiskGhosts D) (file : FileGhosts F)
    : Type 0 where
  pub call : (mail : Mail) (state : State) (devices : Devices D F) (call : Call W D F)
      → Shows disk file devices state.account → Invariant mail state → digits_of call.settings ≡ mail.account
      → IsCall link disk file InMaildir disk.sound (ComesFor mail) devices call
      → (is : IsPromised link disk file mail state devices call) × KeepsOrder file is
      × Invariant mail (state_with mail (with_left mail state is.left) call.vanished is.after)
  pub others : (mail : Mail) (state : State) (devices left : Devices D F) (account : AccountMail)
      → KeepsDurable file mail.account state.account devices.file left.file account
      → HoldsNoMore mail state account → KeepsFronts mail state (state_with mail state [] account)
  pub loss : (mail : Mail) (state : State) (devices left : Devices D F) (account : AccountMail)
      → Shows disk file devices state.account → IsLeftByLoss disk file devices left account
      → KeepsFronts mail state (record state { account = account })

-- ---- with an mboxrd file

-- what a call that appended kept besides: if exactly the first of some messages were recorded before the first call, or
-- have entries, and the server shows what is next of them, it is so after it; and a loss of power can take no more of
-- what is recorded
pub record KeepsMboxOrder {W F : Type 0} (file : FileGhosts F) (devices : Devices F F) {base : Base}
    {done : List Message} {account : MboxMail} {holds : HoldsEntries base done account} {call : Call W F F}
    {sent : List ℕ} {after : MboxMail} (appends : AppendsMail base holds call sent after) : Type 0 where
  pub in_order : (all : List Message) (front : IsMboxFront base holds all)
      → ShowsNext call.settings call.maildrop (front.first ++ done) front.rest → IsMboxFront base appends.kept all
  pub recorded : TrustsMbox file devices call.after → KeepsRecorded (file.disk devices.file) (file.disk call.after.file)
      account.rows after.rows call.report.outcome

-- a law: each call that reads only what is new appends entries, and keeps this
abbrev pub MboxCallsKeepOrder : {W D F : Type 0} → WireGhosts W → DiskGhosts D → FileGhosts F → Type 0
MboxCallsKeepOrder {W} {D} {F} link disk file = (base : Base) (done : List Message) (account : MboxMail)
    (devices : Devices F F) (call : Call W F F) → ShowsMbox file devices account
    → (holds : HoldsEntries base done account) → call.settings.read_all ≡ false
    → IsCall link disk file InMbox file.sound (IsTextOf base) devices call → (sent : List ℕ) × (after : MboxMail)
    × ((link.history call.wire').sent ≡ (link.history call.wire).sent ++ sent) × ShowsMbox file call.after after
    × (appends : AppendsMail base holds call sent after) × KeepsMboxOrder file devices appends
