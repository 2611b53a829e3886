-- One session of an account, by what its link gained: what it reads in that, what it does to the account, and what an
-- honest server's conversation says.
use Rattle.std.specs.{
  Prelude.{◌≡◌, ◌↔◌, ◌⊎◌, ◌<◌, ◌+◌, ◌-◌, ◌&&◌, ℕ, Bool, true, false, not, List, [], ◌∷◌, ◌++◌, map, take, zip, length},
  Prelude.{Some, slice_get, Option, None},
  List.{flat_map, count_by, filter, AllByRecursion},
}
use Rattle.pop3_wire.specs.{
  declared.command.Command.{Command, TheVariants.{User, Pass, Stat, UidlAll, ListAll, Retr, Dele}},
  declared.reply.Status.TheVariants.Positive,
  Body.Body,
  Line.{IsLine, ended},
  Reply.IsFirstLine,
  Commands.line_of,
  World.Message,
  Reading.{WholeReply, body_bytes, reply_bytes, has_body, IsBodyIf, IsUidLine, IsScanLine, HasListing, GivesCount},
  Honest.{Grants, HasSent, BeginsNext, Honest, no_marks},
}
use Rattle.pop3_client.specs.Turns.{Turn}
use Rattle.mail_terms.specs.{
  Listing.{Item, Joins, UidRow, is_first, is_last},
  UniqueId.has_id,
  declared.listing.ScanRow.ScanRow,
}
use Rattle.rc_file.specs.declared.settings.Settings.{Settings}
use Rattle.fetch_record.specs.{Record.{Row, is_delivered, marked_all, merged, Intent}, Intents.closed_rows}
use Rattle.fetch_rules.specs.Wanted.{none_odd, wanted}
use Rattle.mail_store.specs.{
  Maildir.{Maildir, File},
  FileName.{is_held, is_odd, mail_file},
  Held.flags_of,
  Mboxrd.entry_of,
}
use Rattle.session_parts.specs.{
  declared.fault.{Fault.TheVariants.{StoreRefused, SeenRefused, NoMemory}, Why.TheVariants.Refused},
  declared.report.{Outcome.{Outcome, TheVariants.{Ended, Cut}}, Report.Report},
  Tail.{tail, turns_of_tail},
  Target.{closed_file, is_stored, none_held},
}
use Rattle.fetch_runs.specs.Accounts.{AccountMail, listing_of, without_flags}

-- a whole and positive reply to the command
pub record IsGoodReply (command : Command) (reply : WholeReply) : Type 0 where
  pub rest : List ℕ
  pub line : IsLine reply.first
  pub positive : IsFirstLine reply.first Positive rest
  pub body : IsBodyIf (has_body command) reply.body

-- whole and positive replies to the first of these commands
abbrev pub AreGood : List Command → List WholeReply → Type 0
AreGood commands [] = Unit {0}
AreGood [] (reply ∷ replies) = ⊥
AreGood (command ∷ commands) (reply ∷ replies) = IsGoodReply command reply × AreGood commands replies

-- these commands were sent whole, and what was got is a greeting, these replies to the first of them, and the rest
pub record TalkedWith (commands : List Command) (replies : List WholeReply) (sent got : List ℕ) : Type 0 where
  pub asked : HasSent commands sent
  pub hello : List ℕ
  pub line : IsLine hello
  pub good : AreGood commands replies
  pub rest : List ℕ
  pub whole : got ≡ ended hello ++ (flat_map reply_bytes replies ++ rest)

-- each reply grants its command, and the marks are passed on
abbrev pub AreGranted : List Message → List Bool → List Command → List WholeReply → Type 0
AreGranted drop marks commands [] = Unit {0}
AreGranted drop marks [] (reply ∷ replies) = ⊥
AreGranted drop marks (command ∷ commands) (reply ∷ replies) =
    (next : List Bool) × Grants drop marks command (reply_bytes reply) next × AreGranted drop next commands replies

-- in an honest conversation each whole and positive reply is what the command asks of the maildrop
abbrev pub HonestIsGranted : Type 0
HonestIsGranted = (drop : List Message) (sent got : List ℕ) (marks : List Bool) (commands : List Command)
    (replies : List WholeReply)
    → (honest : Honest drop sent got marks) → TalkedWith commands replies sent got
    → AreGranted drop (no_marks drop) commands replies

-- the numbers and texts of the replies to RETR
abbrev pub Retrieves : List Command → List WholeReply → List (ℕ × List ℕ) → Type 0
Retrieves commands [] found = found ≡ []
Retrieves [] (reply ∷ replies) found = ⊥
Retrieves (Retr number ∷ commands) (reply ∷ replies) found =
    (text : List ℕ) × (more : List (ℕ × List ℕ)) × Body (body_bytes reply.body) text
    × (found ≡ (number, text) ∷ more) × Retrieves commands replies more
Retrieves (_ ∷ commands) (reply ∷ replies) found = Retrieves commands replies found

-- the text is the message's of this number
abbrev pub IsNumbered : List Message → ℕ × List ℕ → Type 0
IsNumbered drop found = (message : Message) × (slice_get drop (found.0 - 1) ≡ Some message) × (found.1 ≡ message.text)

-- the listing that the replies to STAT, UIDL and LIST give together
pub record IsListed (stat uidl list : WholeReply) (items : List Item) : Type 0 where
  pub count : ℕ
  pub uids : List UidRow
  pub sizes : List ScanRow
  pub counts : GivesCount stat count
  pub named : HasListing IsUidLine uidl uids
  pub sized : HasListing IsScanLine list sizes
  pub joined : Joins count uids sizes items

-- the parts of a session that the law over accounts uses
pub record Effect : Type 0 where
  pub now : ℕ
  -- the joined listing
  pub listing : List Item
  -- the texts of the whole replies to RETR, in order
  pub texts : List (List ℕ)
  -- the ids for which a DELE was begun
  pub begun : List (List ℕ)
  -- whether the outcome is Ended
  pub ended : Bool

-- the record after the listing and the files were merged into it
abbrev pub merged_rows : List ℕ → AccountMail → Effect → List Row
merged_rows account before effect = merged before.rows effect.listing
    (flags_of account before.maildir effect.listing) effect.now

-- the messages that are fetched, with their numbers
abbrev pub wanted_at : Settings → List ℕ → AccountMail → Effect → List (ℕ × Item)
wanted_at settings account before effect =
    wanted settings (is_odd account before.maildir) (merged_rows account before effect) effect.listing

-- the ids of numbered messages
abbrev pub ids_wanted : List (ℕ × Item) → List (List ℕ)
ids_wanted messages = map (λ (p : ℕ × Item). p.1.uid) messages

-- the file of a message and its text
abbrev pub file_for : List ℕ → (ℕ × Item) × List ℕ → File
file_for account pair = mail_file account pair.0.1.uid pair.1

-- whether the message of a pair isn't held
abbrev pub is_unheld : List ℕ → Maildir → (ℕ × Item) × List ℕ → Bool
is_unheld account maildir pair = not (is_held account maildir pair.0.1.uid)

-- the record's file was refused, or memory ran out for it
abbrev pub IsUnsaved : Outcome → Type 0
IsUnsaved outcome = (outcome ≡ Cut SeenRefused) ⊎ (outcome ≡ Cut NoMemory)

-- the turns that follow an outcome
abbrev pub tail_behind : Outcome → List Turn
tail_behind Ended = []
tail_behind (Cut fault) = turns_of_tail (tail fault)

-- of these turns only the first were sent, which are these commands, and a prefix of the next one's line
pub record SaysOnly (turns : List Turn) (commands : List Command) (part : List ℕ) : Type 0 where
  pub later : List Command
  pub split : turns ≡ map Some (commands ++ later)
  pub begins : BeginsNext later part

-- after LIST only turns that follow the outcome were sent
pub record StopsAtList (outcome : Outcome) (commands : List Command) (part : List ℕ) : Type 0 where
  pub name : List ℕ
  pub word : List ℕ
  pub more : List Command
  pub commands_are : commands ≡ User name ∷ Pass word ∷ Stat ∷ UidlAll ∷ ListAll ∷ more
  pub only : SaysOnly (tail_behind outcome) more part

abbrev pub is_retr : Command → Bool
is_retr (Retr number) = true
is_retr _ = false

-- nothing of the account was changed
pub record Leaves (before : AccountMail) (effect : Effect) (after : AccountMail) : Type 0 where
  pub rows : after.rows ≡ before.rows
  pub same : after.maildir.files ≡ before.maildir.files
  pub begun : effect.begun ≡ []
  pub ended : effect.ended ≡ false

-- the listing was joined, and the first of the wanted messages were stored and recorded, as many as the report counts.
-- One more text came, and its file may be there, only if the store refused it; one fewer is recorded only if the record
-- wasn't saved; and it is the old one only if the session was cut and no command of the plan after LIST was begun
pub record StoresTexts (settings : Settings) (account : List ℕ) (before : AccountMail) (effect : Effect)
    (after : AccountMail) (report : Report) (commands : List Command) (part : List ℕ) : Type 0 where
  -- how many of the wanted messages are held, and how many of these are recorded
  pub stored : ℕ
  pub recorded : ℕ
  pub number : (report.retrieved ≡ length effect.texts)
      ⊎ ((report.retrieved + 1 ≡ length effect.texts) × (report.outcome ≡ Cut (StoreRefused Refused)))
  pub kept : (stored ≡ report.retrieved) ⊎ ((stored ≡ report.retrieved + 1) × (stored ≡ length effect.texts))
  pub marks : (recorded ≡ report.retrieved) ⊎ ((recorded + 1 ≡ report.retrieved) × IsUnsaved report.outcome)
  pub came : without_flags after.maildir.files ≡ without_flags before.maildir.files
      ++ map (file_for account)
      (filter (is_unheld account before.maildir)
      (zip (take stored (wanted_at settings account before effect)) effect.texts))
  pub rows : ((after.rows ≡ before.rows) × (effect.texts ≡ []) × (effect.begun ≡ []) × (effect.ended ≡ false)
      × StopsAtList report.outcome commands part)
      ⊎ (after.rows ≡ marked_all (merged_rows account before effect)
      (ids_wanted (take recorded (wanted_at settings account before effect))))
  pub begun : AllByRecursion (λ id. is_delivered after.rows id ≡ true) effect.begun
  pub ended : effect.ended ≡ true → report.retrieved ≡ length (wanted_at settings account before effect)

-- the texts are those of the first of these messages
abbrev pub AreTexts : List Message → List (ℕ × Item) → List (List ℕ) → Type 0
AreTexts drop wanted [] = Unit {0}
AreTexts drop [] (text ∷ texts) = ⊥
AreTexts drop (first ∷ wanted) (text ∷ texts) = IsNumbered drop (first.0, text) × AreTexts drop wanted texts

-- the server was honest: the listing is the maildrop's, and the texts are those of the wanted messages
pub record IsHonest (wanted : List (ℕ × Item)) (drop : List Message) (effect : Effect) : Type 0 where
  pub listing : effect.listing ≡ listing_of drop
  pub texts : AreTexts drop wanted effect.texts

-- a DELE's number counts from 1, the id of its message is among those begun, and no other message of the
-- listing has that id
abbrev pub IsBegun : List Item → List (List ℕ) → Command → Type 0
IsBegun listing begun (Dele number) = (item : Item) × (slice_get listing (number - 1) ≡ Some item)
    × (has_id begun item.uid ≡ true)
    × (0 < number) × ((is_first listing (number, item) && is_last listing (number, item)) ≡ true)
IsBegun listing begun _ = Unit {0}

-- what was read in the replies: the listing, and the texts of the first of the wanted messages
pub record ReadsReplies (wanted : List (ℕ × Item)) (commands : List Command) (sent got : List ℕ)
    (effect : Effect) : Type 0 where
  pub name : List ℕ
  pub word : List ℕ
  pub more : List Command
  pub commands_are : commands ≡ User name ∷ Pass word ∷ Stat ∷ UidlAll ∷ ListAll ∷ more
  pub user : WholeReply
  pub pass : WholeReply
  pub stat : WholeReply
  pub uidl : WholeReply
  pub list : WholeReply
  pub replies : List WholeReply
  pub talked : TalkedWith (User name ∷ Pass word ∷ Stat ∷ UidlAll ∷ ListAll ∷ more)
      (user ∷ pass ∷ stat ∷ uidl ∷ list ∷ replies) sent got
  pub listed : IsListed stat uidl list effect.listing
  pub found : List (ℕ × List ℕ)
  pub retrieves : Retrieves (User name ∷ Pass word ∷ Stat ∷ UidlAll ∷ ListAll ∷ more)
      (user ∷ pass ∷ stat ∷ uidl ∷ list ∷ replies) found
  pub texts : effect.texts ≡ map (λ (p : ℕ × List ℕ). p.1) found
  pub numbers : map (λ (p : ℕ × List ℕ). p.0) found ≡ map (λ (p : ℕ × Item). p.0) (take (length found) wanted)

-- nothing was sent, or a beginning of the line of one command of this kind
abbrev pub BeginsOne : (Command → Type 0) → List ℕ → Type 0
BeginsOne Is part = (part ≡ [])
    ⊎ ((command : Command) × (unsent : List ℕ) × (ended (line_of command) ≡ part ++ unsent) × Is command)

-- each command that was sent, the last perhaps in part, is of this kind
pub record SendsOnly (Is : Command → Type 0) (sent : List ℕ) : Type 0 where
  pub commands : List Command
  pub asked : HasSent commands sent
  pub each : AllByRecursion Is commands
  pub next : BeginsOne Is asked.part

-- a session by what its link gained: it changed nothing, or it read the replies and stored texts. If it ended, the
-- report counts each RETR
pub record SessionOverLink (settings : Settings) (account : List ℕ) (before : AccountMail)
    (sent got : List ℕ) (report : Report)
    (effect : Effect) (after : AccountMail) : Type 0 where
  pub sends : SendsOnly (IsBegun effect.listing effect.begun) sent
  pub ended : (effect.ended ≡ true) ↔ (report.outcome ≡ Ended)
  pub retrieves : effect.ended ≡ true → report.retrieved ≡ count_by is_retr sends.commands
  pub step : (Leaves before effect after × (report.retrieved ≡ 0))
      ⊎ (StoresTexts settings account before effect after report sends.commands sends.asked.part
      × ReadsReplies (wanted_at settings account before effect) sends.commands sent got effect)

-- the id is that of a message that is marked
abbrev pub IsMarked : List Message → List Bool → List ℕ → Type 0
IsMarked drop marks id = (place : ℕ) × (message : Message) × (slice_get marks place ≡ Some true)
    × (slice_get drop place ≡ Some message) × (message.uid ≡ id)

-- the link was honest, and the messages with these ids were marked when it ended, and were removed
pub record Served (drop : List Message) (sent got : List ℕ) (vanished : List (List ℕ)) : Type 0 where
  pub marks : List Bool
  pub honest : Honest drop sent got marks
  pub marked : AllByRecursion (IsMarked drop marks) vanished

-- ---- with an mboxrd file

-- the rows of the record and its open intent, and the mboxrd file
pub record MboxMail : Type 0 where
  pub rows : List Row
  pub intent : Option Intent
  pub file : List ℕ

-- the account after the open intent is closed, by what is listed
abbrev pub settled : List Item → MboxMail → MboxMail
settled listing account = record {
  rows = closed_rows (is_stored account.intent listing account.file) account.rows account.intent;
  intent = None;
  file = closed_file account.intent listing account.file;
}

-- the record after it was settled and the listing was merged into it
abbrev pub mbox_rows : MboxMail → Effect → List Row
mbox_rows before effect = merged (settled effect.listing before).rows effect.listing
    (none_held effect.listing) effect.now

abbrev pub mbox_wanted : Settings → MboxMail → Effect → List (ℕ × Item)
mbox_wanted settings before effect = wanted settings none_odd (mbox_rows before effect) effect.listing

-- the entries of these texts
abbrev pub entries : List (List ℕ) → List ℕ
entries texts = flat_map entry_of texts

-- the entries of these messages
abbrev pub entries_of : List Message → List ℕ
entries_of ms = flat_map (λ (m : Message). entry_of m.text) ms

-- the intent to append the entry of a text to these bytes
abbrev pub entry_intent : List ℕ → List ℕ → List ℕ → Intent
entry_intent bytes uid text = record { uid = uid; start = length bytes; len = length (entry_of text) }

-- the intent to append the entry of this text is open, and the file is these bytes and a prefix, or all, of the entry
pub record IsOpen (bytes uid text : List ℕ) (account : MboxMail) : Type 0 where
  pub intent : account.intent ≡ Some (entry_intent bytes uid text)
  pub front : List ℕ
  pub behind : List ℕ
  pub entry : entry_of text ≡ front ++ behind
  pub file : account.file ≡ bytes ++ front

-- neither RETR nor DELE
abbrev pub AsksForNoMessage : Command → Type 0
AsksForNoMessage (Retr number) = ⊥
AsksForNoMessage (Dele number) = ⊥
AsksForNoMessage _ = Unit {0}

-- no command for a message was begun
abbrev pub AsksForNone : List Command → List ℕ → Type 0
AsksForNone commands part = AllByRecursion AsksForNoMessage commands × BeginsOne AsksForNoMessage part

-- the record is as it was, and the file is as it was, or cut back by its intent
pub record MboxLeaves (before : MboxMail) (effect : Effect) (after : MboxMail) : Type 0 where
  pub rows : after.rows ≡ before.rows
  pub intent : after.intent ≡ before.intent
  pub file : (after.file ≡ before.file) ⊎ (after.file ≡ (settled effect.listing before).file)
  pub begun : effect.begun ≡ []
  pub ended : effect.ended ≡ false

-- the settled file, and the first n of the texts that came
abbrev pub bytes_at : MboxMail → Effect → ℕ → List ℕ
bytes_at before effect n = (settled effect.listing before).file ++ entries (take n effect.texts)

-- the entry of the next wanted message was about to be appended
pub record IsBroken (settings : Settings) (before : MboxMail) (effect : Effect) (stored : ℕ)
    (after : MboxMail) : Type 0 where
  pub message : ℕ × Item
  pub text : List ℕ
  pub wanted : slice_get (mbox_wanted settings before effect) stored ≡ Some message
  pub got : slice_get effect.texts stored ≡ Some text
  pub opened : IsOpen (bytes_at before effect stored) message.1.uid text after

-- the account was settled, the listing merged, and the first `stored` of the wanted messages appended and recorded, as
-- many as the report counts; or one more was appended, if the record wasn't saved
pub record MboxStores (settings : Settings) (before : MboxMail) (effect : Effect) (after : MboxMail) (report : Report)
    : Type 0 where
  pub stored : ℕ
  pub number : (report.retrieved ≡ length effect.texts) ⊎ (report.retrieved + 1 ≡ length effect.texts)
  pub marks : (stored ≡ report.retrieved) ⊎ ((stored + 1 ≡ report.retrieved) × IsUnsaved report.outcome
      × (after.file ≡ bytes_at before effect report.retrieved))
  pub rows : after.rows ≡ marked_all (mbox_rows before effect)
      (ids_wanted (take stored (mbox_wanted settings before effect)))
  pub ending : ((after.intent ≡ None) × (after.file ≡ bytes_at before effect stored))
      ⊎ IsBroken settings before effect stored after
  pub begun : AllByRecursion (λ id. is_delivered after.rows id ≡ true) effect.begun
  pub ended : effect.ended ≡ true → (length (mbox_wanted settings before effect) ≡ stored) × (after.intent ≡ None)

-- a session by what its link gained: it asked for no message and left the account as it was, or its file cut
-- back; or it settled the account, read the replies and appended texts
pub record MboxSessionOverLink (settings : Settings) (before : MboxMail) (sent got : List ℕ)
    (report : Report) (effect : Effect)
    (after : MboxMail) : Type 0 where
  pub sends : SendsOnly (IsBegun effect.listing effect.begun) sent
  pub ended : (effect.ended ≡ true) ↔ (report.outcome ≡ Ended)
  pub retrieves : effect.ended ≡ true → report.retrieved ≡ count_by is_retr sends.commands
  pub step : (MboxLeaves before effect after × AsksForNone sends.commands sends.asked.part × (report.retrieved ≡ 0))
      ⊎ (MboxStores settings before effect after report
      × ReadsReplies (mbox_wanted settings before effect) sends.commands sent got effect)
