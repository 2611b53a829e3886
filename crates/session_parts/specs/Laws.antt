-- What a list of tasks that stopped leaves, in terms of the tasks that were done.
use Rattle.std.specs.{
  Prelude.{◌≡◌, ◌⊎◌, ◌≤◌, ℕ, Bool, true, List, [], ◌∷◌, ◌++◌, length, Option, Err},
  List.{AllByRecursion, AllZip, flat_map},
}
use Rattle.fetch_record.specs.Record.{RecordState, Row, is_delivered, marked_all, none_open}
use Rattle.mail_store.specs.{
  Devices.stored_in,
  FlatFile.Stored,
  FileName.IsAccountText,
  Held.HasDurable,
  Maildir.{AfterTaking, AllFlushed, File, IsDurableFile},
  declared.{file.flat_file.FlatFile.Ghosts as FileGhosts, maildir.disk.MaildirDisk.Ghosts as DiskGhosts},
}
use Rattle.pop3_wire.specs.{Link.Link, Reading.{WholeReply, reply_bytes}, declared.wire.Wire.Ghosts as WireGhosts}
use Rattle.rc_file.specs.declared.settings.Settings.{Settings}
use Rattle.pop3_client.specs.Turns.{IsGood}
use Rattle.session_parts.specs.{
  declared.fault.{Fault.{Fault, TheVariants.{StoreRefused, SeenRefused, NoMemory}}, Cut.Cut, Why.TheVariants.Refused},
  declared.report.Report.Report,
  Task.{Task, Done, stores, tasks_of, turns_of, replies_of, marked_ids, files_of, file_from, report_lines},
  Record.{Keeps, KeepsRows, Saves, Steady},
  Scene.{Scene, Fell, WhereAllSound},
  Target.{AsFiles, IsSoundMaildir, IsSoundMbox, maildir_of, mbox_of},
  Account.{Holding, IsSameAccount, digits_of},
  Durable.{RunsSession, DurableSession},
  Session.{AccountFiles, MboxSession, Session, account_files, mbox_account_files},
}

-- what was got begins with these replies, whole
abbrev pub CameWhole : List WholeReply → Scene → Scene → Type 0
CameWhole replies old new = (rest : List ℕ)
    × (new.place.link.got ≡ old.place.link.got ++ (flat_map reply_bytes replies ++ rest))

-- one more file, whose reply comes after those taken, only if the store refused; its name may not be durable
abbrev pub ExtraIs : List ℕ → List Done → List Task → Scene → Fault → Scene → List File → Type 0
ExtraIs account taken next old fault new extra = (extra ≡ [])
    ⊎ ((fault ≡ StoreRefused Refused) × ((number : ℕ) × (uid : List ℕ) × (later : List Task) × (reply : WholeReply)
    × (next ≡ stores number uid ∷ later)
    × ((is_named : Bool) × (extra ≡ record (file_from account uid reply) { is_named = is_named } ∷ []))
    × CameWhole (replies_of taken ++ reply ∷ []) old new))

-- the marks are those of all tasks; or the last is missing, only if the record wasn't saved
abbrev pub MarksAre : List (List ℕ) → Fault → List (List ℕ) → Type 0
MarksAre taken fault marks = (marks ≡ taken) ⊎ (((fault ≡ SeenRefused) ⊎ (fault ≡ NoMemory))
    × ((uid : List ℕ) × (taken ≡ marks ++ uid ∷ [])))

-- what tasks that were cut short leave of an account with a Maildir
pub record CutShort (account : List ℕ) (tasks : List Task) (old : Scene) (fault : Fault) (new : Scene) : Type 0 where
  pub taken : List Done
  pub next : List Task
  pub extra : List File
  pub marks : List (List ℕ)
  pub split : tasks ≡ tasks_of taken ++ next
  pub good : AllZip IsGood (turns_of taken) (replies_of taken)
  pub got : CameWhole (replies_of taken) old new
  pub told : new.lines ≡ old.lines ++ report_lines taken
  pub files : new.store.maildir.files ≡ old.store.maildir.files ++ (files_of account taken ++ extra)
  pub extra_is : ExtraIs account taken next old fault new extra
  pub marks_are : MarksAre (marked_ids taken) fault marks
  pub record_is : Keeps new.file.content (none_open (marked_all old.rows marks))

-- a list of tasks that stopped leaves what tasks that were cut short leave
abbrev pub StoppingCutsShort : Type 0
StoppingCutsShort = (account : List ℕ) (tasks : List Task) (old new : Scene) (cut : Cut)
    → Fell (AsFiles account) tasks old cut new → old.place.waiting ≡ [] → Steady old.file.content (none_open old.rows)
    → CutShort account tasks old cut.fault new

-- a session of an account with a Maildir
abbrev pub MaildirSessions : {W D F : Type 0} → WireGhosts W → DiskGhosts D → FileGhosts F → Type 0
MaildirSessions {W} {D} {F} link disk files = (now : ℕ) (old new : Holding D F) (wire wire' : W) (report : Report)
    → IsSameAccount old new
    → RunsSession link disk files now old wire report new wire'
    → WhereAllSound link.sound link.leads_to (IsSoundMaildir disk) files.sound wire wire' old.store new.store
    old.file new.file
    (AfterTaking (maildir_of disk old.store)
    (λ left. Session old.settings (digits_of old.settings) now (link.history wire)
    (account_files left (stored_in files old.file)) report (link.history wire')
    (account_files (maildir_of disk new.store) (stored_in files new.file))))

-- a session of an account with an mboxrd file, and what of its files is durable
abbrev pub MboxSessions : {W D F : Type 0} → WireGhosts W → DiskGhosts D → FileGhosts F → Type 0
MboxSessions {W} {D} {F} link disk files = (now : ℕ) (old new : Holding D F) (wire wire' : W) (report : Report)
    → IsSameAccount old new
    → RunsSession link disk files now old wire report new wire'
    → WhereAllSound link.sound link.leads_to (IsSoundMbox files) files.sound wire wire' old.store new.store
    old.file new.file
    ((session : MboxSession old.settings now (link.history wire)
    (mbox_account_files (mbox_of files old.store) (stored_in files old.file)) report
    (link.history wire') (mbox_account_files (mbox_of files new.store) (stored_in files new.file)))
    × DurableSession files old.store old.file session new.store new.file)

-- each file that was there before a session is there after it, and others may have come; it takes none away, and the
-- same names are odd
abbrev pub SessionsKeepFiles : Type 0
SessionsKeepFiles = (settings : Settings) (account : List ℕ) (now : ℕ) (link : Link) (before : AccountFiles)
    (report : Report)
    (link' : Link) (after : AccountFiles)
    → Session settings account now link before report link' after
    → (came : List File) × (after.maildir.files ≡ before.maildir.files ++ came)
    × (after.maildir.taken ≡ before.maildir.taken) × (after.maildir.odd ≡ before.maildir.odd)

-- the files that came are durable, but perhaps the last, whose name may not be; and of each message that the record
-- shows as delivered and didn't before a durable file is there
pub record LeavesDurable (account : List ℕ) (before after : AccountFiles) : Type 0 where
  pub came : List File
  pub last : List File
  pub files : after.maildir.files ≡ before.maildir.files ++ (came ++ last)
  pub durable : AllByRecursion IsDurableFile came
  pub flushed : AllFlushed last
  pub at_most_one : length last ≤ 1
  pub shown : (was rows : List Row) (id : List ℕ) → KeepsRows before.file.content was
      → KeepsRows after.file.content rows
      → is_delivered rows id ≡ true → (is_delivered was id ≡ true) ⊎ HasDurable account after.maildir id

-- so a session leaves it, whatever cut it
abbrev pub SessionsAreDurable : Type 0
SessionsAreDurable = (settings : Settings) (account : List ℕ) (now : ℕ) (link : Link) (before : AccountFiles)
    (report : Report)
    (link' : Link) (after : AccountFiles)
    → IsAccountText account → Session settings account now link before report link' after
    → LeavesDurable account before after

-- a file of version 2 that stands for a record and has no torn end stands for that record
abbrev pub SteadyFilesKeep : Type 0
SteadyFilesKeep = (content : Option (List ℕ)) (state : RecordState) → Steady content state → Keeps content state

-- the file of a record that wasn't saved stands for the old record or for the new one
abbrev pub UnsavedFilesKeep : Type 0
UnsavedFilesKeep = (old : Stored) (was now : RecordState) (fault : Fault) (new : Stored)
    → Saves old was now (Err fault) new
    → Steady old.content was
    → Keeps new.content was ⊎ Keeps new.content now
