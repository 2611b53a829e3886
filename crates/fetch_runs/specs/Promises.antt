-- What a call of `session` promises, in what the account's files mean, and what holds before and after it. A server may
-- show any messages, in any order, and each call may have other limits: what stays is which texts come for a unique-id.
use Rattle.std.{
  specs.Prelude.{◌≡◌, ◌⊎◌, ◌≤◌, ◌<◌, ◌-◌, ◌&&◌, ◌||◌, ℕ, Bool, true, false, not, List, [], ◌∷◌, ◌++◌, map, length},
  specs.Prelude.{slice_get, None, Some},
  specs.List.{AllByRecursion, count_by, filter, list_any},
  proofs.Common.inr,
}
use Rattle.pop3_wire.specs.{World.Message, declared.command.Command.{Command, TheVariants.Dele}}
use Rattle.mail_terms.specs.{Distinct.AreDistinct, Text.IsWhole, UniqueId.{is_legal_id, has_id}}
use Rattle.rc_file.specs.declared.settings.Settings.{Settings}
use Rattle.fetch_record.specs.Record.{is_delivered}
use Rattle.fetch_rules.specs.Wanted.{allows_size, at_most, fitting}
use Rattle.mail_store.specs.{
  FileName.{is_held, name_of, names_id, stem_of},
  Maildir.file,
  Mboxrd.entry_of,
  Settling.MayBeLeft,
}
use Rattle.session_parts.specs.declared.report.{Outcome.TheVariants.Ended, Report.Report}
use Rattle.fetch_runs.specs.{
  Accounts.{AccountMail, copies, has_named, message_ids, without_flags},
  Sessions.{SendsOnly, is_retr, MboxMail, entries_of, entry_intent},
}

-- the devices of an account: its store, which is a Maildir or an mboxrd file, and the record's file
pub record Devices (S F : Type 0) : Type 0 where
  pub store : S
  pub file : F

-- one call of `session`, with the maildrop that its server showed, and the ids that its QUIT removed from the server
pub record Call (W S F : Type 0) : Type 0 where
  pub settings : Settings
  pub now : ℕ
  pub report : Report
  pub wire : W
  pub wire' : W
  pub after : Devices S F
  pub maildrop : List Message
  pub vanished : List (List ℕ)

-- what stays throughout: the account's text, as it is in the names of its files; and which texts come for each id
pub record Mail : Type 0 where
  pub account : List ℕ
  pub is_text : List ℕ → List ℕ → Bool

-- a text that comes for an id
abbrev pub ComesFor : Mail → List ℕ → List ℕ → Type 0
ComesFor mail id text = mail.is_text id text ≡ true

-- one text comes for each id
abbrev pub OneComes : Mail → Type 0
OneComes mail = (id text other : List ℕ) → ComesFor mail id text → ComesFor mail id other → text ≡ other

-- a message with a legal id, and a text that comes for it; its size may be listed differently each time
pub record IsOf (Comes : List ℕ → List ℕ → Type 0) (message : Message) : Type 0 where
  pub legal : is_legal_id message.uid ≡ true
  pub text : Comes message.uid message.text

-- a maildrop: any such messages, in any order, no two of which share an id
pub record IsMaildrop (Comes : List ℕ → List ℕ → Type 0) (maildrop : List Message) : Type 0 where
  pub each : AllByRecursion (IsOf Comes) maildrop
  pub distinct : AreDistinct (message_ids maildrop)

-- an account; the ids that are gone from the server; and which messages were taken away (see `state_with`)
pub record State : Type 0 where
  pub account : AccountMail
  pub gone : List (List ℕ)
  pub taken : List ℕ → Bool

-- the message is held, or was taken away
abbrev pub is_safe : Mail → State → List ℕ → Bool
is_safe mail state id = is_held mail.account state.account.maildir id || state.taken id

abbrev pub IsSafe : Mail → State → List ℕ → Type 0
IsSafe mail state id = (is_legal_id id ≡ true) × (is_safe mail state id ≡ true)

-- each message is in one file with a text that comes for it, or in none
abbrev pub HoldsEachOnce : Mail → AccountMail → Type 0
HoldsEachOnce mail account = (id : List ℕ) → is_legal_id id ≡ true
    → let texts = copies account.maildir.files (stem_of mail.account id) in
    (texts ≡ []) ⊎ ((text : List ℕ) × ComesFor mail id text × (texts ≡ text ∷ []))

-- the state once this is its account, and these ids are gone too. What was held or taken away, and isn't held, was
-- taken away; and what was taken away before still counts so until a file of it is there whose name is durable
abbrev pub state_with : Mail → State → List (List ℕ) → AccountMail → State
state_with mail state vanished after = record {
  account = after;
  gone = vanished ++ state.gone;
  taken = λ id. (is_safe mail state id && not (is_held mail.account after.maildir id))
      || (state.taken id && not (has_named mail.account after.maildir id));
}

-- others may move, mark, take away and put back files, and lose the record or put back an older one
pub record IsBetween (mail : Mail) (before after : AccountMail) : Type 0 where
  pub holds : HoldsEachOnce mail after
  pub shows_no_more : (id : List ℕ) → is_delivered after.rows id ≡ true → is_delivered before.rows id ≡ true

-- a DELE gives the number, counted from 1, of a message of the maildrop whose id is of this kind
abbrev pub DeletesOneOf : List Message → (List ℕ → Type 0) → Command → Type 0
DeletesOneOf maildrop Is (Dele number) = (0 < number) × (message : Message)
    × (slice_get maildrop (number - 1) ≡ Some message) × Is message.uid
DeletesOneOf maildrop Is _ = Unit {0}

-- whether a session that met such odd names and knows such ids may fetch a message
abbrev pub may_fetch : Settings → (odd known : List ℕ → Bool) → Message → Bool
may_fetch settings is_odd is_known m = not (not settings.read_all && is_known m.uid)
    && (not (is_odd m.uid) && allows_size settings m.size)

-- an uncut session that met such odd names and knows messages of such ids retrieved what it wants of the maildrop: of
-- those that it may fetch as many as its limit says. These are of this kind, and so are those that it knows
abbrev pub FetchesWanted : {W S F : Type 0} → Call W S F → (odd known : List ℕ → Bool) → (Message → Type 0) → Type 0
FetchesWanted call is_odd is_known Is = call.report.outcome ≡ Ended → let wanted = at_most call.settings (λ m. m.size)
    (filter (may_fetch call.settings is_odd is_known) call.maildrop) in
    (call.report.retrieved ≡ length wanted) × AllByRecursion Is (filter (λ m. is_known m.uid) call.maildrop ++ wanted)

-- what a maildrop has within the session's limit and isn't done is the first of these
abbrev pub ShowsNext : Settings → List Message → List Message → List Message → Type 0
ShowsNext settings maildrop done rest = (more : List Message) × (rest ≡ filter (λ (m : Message).
    allows_size settings m.size && not (has_id (message_ids done) m.uid)) maildrop ++ more)

-- those that are held or were taken away are exactly the first of these messages
pub record IsFront (mail : Mail) (state : State) (all : List Message) : Type 0 where
  pub done : List Message
  pub rest : List Message
  pub prefix : all ≡ done ++ rest
  pub is_done : (id : List ℕ) → is_legal_id id ≡ true → has_id (message_ids done) id ≡ is_safe mail state id

-- what came is of the maildrop and wasn't held, nor recorded, if only what is new is read
pub record IsNew {W S F : Type 0} (mail : Mail) (before : AccountMail) (call : Call W S F) (m : Message) : Type 0 where
  pub shown : has_id (message_ids call.maildrop) m.uid ≡ true
  pub unheld : is_held mail.account before.maildir m.uid ≡ false
  pub unrecorded : call.settings.read_all ≡ false → is_delivered before.rows m.uid ≡ false

-- what a call promises that sent this and left this account: DELE, even in part, is for what is held or was taken away;
-- no file is lost, only those of new messages come, no more than the limit on their number says; what was recorded,
-- QUIT removed or an uncut one wants is recorded, and of others none but what came, or was held or taken away
pub record Promises {W S F : Type 0} (mail : Mail) (state : State) (call : Call W S F) (sent : List ℕ)
    (after : AccountMail) : Type 0 where
  pub wanted : FetchesWanted call (λ id. list_any (names_id mail.account id) after.maildir.odd)
      (λ id. is_delivered state.account.rows id || is_held mail.account state.account.maildir id)
      (λ m. IsSafe mail (state_with mail state call.vanished after) m.uid × (is_delivered after.rows m.uid ≡ true))
  pub deletes : SendsOnly (DeletesOneOf call.maildrop (IsSafe mail (state_with mail state call.vanished after))) sent
  pub retrieved : call.report.outcome ≡ Ended → call.report.retrieved ≡ count_by is_retr deletes.commands
  pub vanished : AllByRecursion (λ id. is_delivered after.rows id ≡ true) call.vanished
  pub came : List Message
  pub added : without_flags after.maildir.files ≡ without_flags state.account.maildir.files
      ++ map (λ (m : Message). file (name_of mail.account m.uid (length m.text)) m.text) came
  pub new : AllByRecursion (IsNew mail state.account call) came
  pub few : length came ≤ fitting call.settings (map (λ (m : Message). m.size) call.maildrop)
  pub recorded : (id : List ℕ) → is_delivered state.account.rows id ≡ true → is_delivered after.rows id ≡ true
  pub no_more : (id : List ℕ) → is_delivered after.rows id ≡ true
      → (is_safe mail state id || has_id (message_ids came) id) ≡ true

-- each message is held once; what is recorded, or is gone from the server, is held or was taken away
pub record Invariant (mail : Mail) (state : State) : Type 0 where
  pub holds : HoldsEachOnce mail state.account
  pub recorded : (id : List ℕ) → is_delivered state.account.rows id ≡ true → IsSafe mail state id
  pub gone : AllByRecursion (IsSafe mail state) state.gone

-- ---- with an mboxrd file

-- the file before the first session; whether an id was recorded as delivered then; and the text that each id names
pub record Base : Type 0 where
  pub start : List ℕ
  pub had : List ℕ → Bool
  pub text : List ℕ → List ℕ

-- the text that an id names, which is empty or ends in LF
abbrev pub IsTextOf : Base → List ℕ → List ℕ → Type 0
IsTextOf base id text = (text ≡ base.text id) × IsWhole text

-- the id is that of one of these messages, or was recorded before the first session
abbrev pub is_entered : Base → List Message → List ℕ → Bool
is_entered base done id = base.had id || has_id (message_ids done) id

-- what others leave counts as from before the first session; no intent is open then
abbrev pub base_from : Base → MboxMail → Base
base_from base after = record base { start = after.file; had = λ id. is_delivered after.rows id }

-- an intent for a message that isn't recorded is open, and after these bytes is what a loss may leave of its entry
pub record IsOpenFor (base : Base) (bytes : List ℕ) (account : MboxMail) : Type 0 where
  pub next : Message
  pub is : IsOf (IsTextOf base) next
  pub unrecorded : is_delivered account.rows next.uid ≡ false
  pub intent : account.intent ≡ Some (entry_intent bytes next.uid next.text)
  pub part : List ℕ
  pub left : MayBeLeft (length bytes) (entry_of next.text) part
  pub file : account.file ≡ bytes ++ part

-- no intent is open, and the file is these bytes; or one is
abbrev pub Stands : Base → List ℕ → MboxMail → Type 0
Stands base bytes account = ((account.intent ≡ None) × (account.file ≡ bytes)) ⊎ IsOpenFor base bytes account

-- the file is the one before the first session, then the entries of these messages, in this order, each once, and then
-- perhaps a part of another one's, whose intent is open. These are recorded, and what was before the first session
pub record HoldsEntries (base : Base) (done : List Message) (account : MboxMail) : Type 0 where
  pub are : IsMaildrop (IsTextOf base) done
  pub new : AllByRecursion (λ (m : Message). base.had m.uid ≡ false) done
  pub recorded : (id : List ℕ) → is_delivered account.rows id ≡ is_entered base done id
  pub stands : Stands base (base.start ++ entries_of done) account

-- those recorded before, then those with entries, are exactly the first of these; an open intent is that of the next
pub record IsMboxFront (base : Base) {done : List Message} {account : MboxMail} (holds : HoldsEntries base done account)
    (all : List Message) : Type 0 where
  pub first : List Message
  pub rest : List Message
  pub prefix : all ≡ (first ++ done) ++ rest
  pub had : (id : List ℕ) → base.had id ≡ has_id (message_ids first) id
  pub next : (o : IsOpenFor base (base.start ++ entries_of done) account) → holds.stands ≡ inr o
      → (more : List Message) × (rest ≡ o.next ∷ more)

-- a call adds the entries of these messages, first those that it found whole; an uncut one leaves no intent open. DELE,
-- even in part, and QUIT are for what is entered. A part of one more entry is as it was, or a prefix
pub record AppendsMail {W S F : Type 0} (base : Base) {done : List Message} {before : MboxMail}
    (holds : HoldsEntries base done before) (call : Call W S F) (sent : List ℕ) (after : MboxMail) : Type 0 where
  pub more : List Message
  pub kept : HoldsEntries base (done ++ more) after
  pub closed : call.report.outcome ≡ Ended → after.intent ≡ None
  pub found : List Message
  pub fetched : call.report.outcome ≡ Ended → (texts : List Message) × (more ≡ found ++ texts)
      × (length texts ≡ call.report.retrieved)
  pub wanted : FetchesWanted call (λ id. false) (is_entered base (done ++ found))
      (λ m. is_entered base (done ++ more) m.uid ≡ true)
  pub deletes : SendsOnly (DeletesOneOf call.maildrop (λ id. is_entered base (done ++ more) id ≡ true)) sent
  pub retrieved : call.report.outcome ≡ Ended → call.report.retrieved ≡ count_by is_retr deletes.commands
  pub vanished : AllByRecursion (λ id. is_entered base (done ++ more) id ≡ true) call.vanished
  pub part : (o : IsOpenFor base (base.start ++ entries_of (done ++ more)) after) → kept.stands ≡ inr o
      → (after.file ≡ before.file) ⊎ ((behind : List ℕ) × (entry_of o.next.text ≡ o.part ++ behind))

-- a law: it may begin with any account that has no open intent, also after others wrote its file or its record
abbrev pub MboxStarts : Type 0
MboxStarts = (base : Base) (account : MboxMail) → account.intent ≡ None
    → HoldsEntries (base_from base account) [] account
