-- The state of a session, and what a list of tasks does to it.
use Rattle.std.specs.{
  Prelude.{◌≡◌, ◌⊎◌, ◌≤◌, ℕ, true, List, [], ◌∷◌, ◌++◌, None, Some, Result, Ok, Err},
  List.AllByRecursion,
}
use Rattle.pop3_wire.specs.{
  Place.Place,
  Reading.WholeReply,
  Bodies.Rest,
  declared.unstuffer.Spot.TheVariants.Done as AtEnd,
}
use Rattle.fetch_record.specs.Record.{Row, none_open, marked, marked_all}
use Rattle.mail_store.specs.{FlatFile.Stored, FileName.stem_of}
use Rattle.pop3_client.specs.{Turns.{Turn, quit, retr}, Conversation.Talked, Texts.{Fetching, Fetched, body_text}}
use Rattle.session_parts.specs.{
  declared.{report.ReportLine.ReportLine, fault.{Cut.Cut, Fault.TheVariants.NoMemory}},
  Fault.Breaks,
  Task.{Task, says, stores, Done, IsAnswered, turns_in, tasks_of, turns_of, replies_of, marked_ids, file_from},
  Task.{delivered, report_lines},
  Store.{RefusesText, Gained, Appended, Brings},
  Target.{Target, AsFiles, AsEntries, Stores},
  Mbox.{RefusesEntry, MarksEntry, RefusesAgain},
  Report.has_deletions,
  Record.{Steady, Saves},
}

-- the link and what waits, what the store holds, the record's file, the record, and the lines noted so far
pub record Scene : Type 0 where
  pub place : Place
  pub store : Stores
  pub file : Stored
  pub rows : List Row
  pub lines : List ReportLine

abbrev pub scene : Place → Stores → Stored → List Row → List ReportLine → Scene
scene place store file rows lines = record { place = place; store = store; file = file; rows = rows; lines = lines }

-- these tasks were done: their turns talked, each with its own reply, their texts stored, and their ids marked and
-- saved
pub record Went (target : Target) (dones : List Done) (old new : Scene) : Type 0 where
  pub talked : Talked (turns_of dones) (replies_of dones) old.place new.place
  pub each : AllByRecursion IsAnswered dones
  pub stored : Brings target dones old.store new.store
  pub rows : new.rows ≡ marked_all old.rows (marked_ids dones)
  pub saved : Steady old.file.content (none_open old.rows) → Steady new.file.content (none_open new.rows)
  pub file_count : old.file.failures ≤ new.file.failures
  pub lines : new.lines ≡ old.lines ++ report_lines dones

-- the conversation broke, and nothing was stored
pub record Broken (next : Task) (old new : Scene) (cut : Cut) : Type 0 where
  pub none : cut.rest ≡ None
  pub turn : Turn
  pub takes : turns_in next ≡ turn ∷ []
  pub broke : Breaks turn old.place new.place cut.fault
  pub store : new.store ≡ old.store
  pub file : new.file ≡ old.file
  pub rows : new.rows ≡ old.rows
  pub lines : new.lines ≡ old.lines

-- the text is under way, or was read, and the store refused it: it may be there all the same, but only if it was read
pub record NoFile (account : List ℕ) (next : Task) (old new : Scene) (cut : Cut) : Type 0 where
  pub number : ℕ
  pub uid : List ℕ
  pub rest : Rest
  pub text : List ℕ
  pub is : next ≡ stores number uid
  pub under_way : cut.rest ≡ Some rest
  pub fetching : Fetching (retr number) old.place new.place rest text
  pub whole : rest.spot ≡ AtEnd → Fetched (retr number) old.place text new.place
  pub refuses : RefusesText old.store.maildir (stem_of account uid) rest text cut.fault new.store.maildir
  pub file : new.file ≡ old.file
  pub rows : new.rows ≡ old.rows
  pub lines : new.lines ≡ old.lines

-- the text was stored, and saving its mark failed: the record's file may have it all the same
pub record FileNotSaved (account : List ℕ) (next : Task) (old new : Scene) (cut : Cut) : Type 0 where
  pub none : cut.rest ≡ None
  pub number : ℕ
  pub uid : List ℕ
  pub reply : WholeReply
  pub is : next ≡ stores number uid
  pub talked : Talked (retr number ∷ []) (reply ∷ []) old.place new.place
  pub stored : Gained old.store.maildir new.store.maildir (file_from account uid reply ∷ [])
  pub saves : Saves old.file (none_open old.rows) (none_open (marked old.rows uid)) (Err cut.fault) new.file
  pub lines : new.lines ≡ old.lines ++ delivered number reply ∷ []

-- memory ran out for a text as it came, and nothing of it was stored
pub record NoRoomForText (next : Task) (old new : Scene) (cut : Cut) : Type 0 where
  pub none : cut.rest ≡ None
  pub number : ℕ
  pub uid : List ℕ
  pub rest : Rest
  pub text : List ℕ
  pub is : next ≡ stores number uid
  pub wants : cut.fault ≡ NoMemory
  pub fetching : Fetching (retr number) old.place new.place rest text
  pub store : new.store ≡ old.store
  pub file : new.file ≡ old.file
  pub rows : new.rows ≡ old.rows
  pub lines : new.lines ≡ old.lines

-- the text was read, and it wasn't appended: its intent may be open, and a front of its entry may follow the file's
-- bytes
pub record NoEntry (next : Task) (old new : Scene) (cut : Cut) : Type 0 where
  pub none : cut.rest ≡ None
  pub number : ℕ
  pub uid : List ℕ
  pub reply : WholeReply
  pub is : next ≡ stores number uid
  pub talked : Talked (retr number ∷ []) (reply ∷ []) old.place new.place
  pub refuses : RefusesEntry old.store.mbox old.file old.rows uid
      (body_text reply.body) cut.fault new.store.mbox new.file
  pub rows : new.rows ≡ old.rows
  pub lines : new.lines ≡ old.lines

-- its entry was appended, and saving the mark that ends its intent failed: the record's file may have it all the same
pub record EntryNotSaved (next : Task) (old new : Scene) (cut : Cut) : Type 0 where
  pub none : cut.rest ≡ None
  pub number : ℕ
  pub uid : List ℕ
  pub reply : WholeReply
  pub is : next ≡ stores number uid
  pub talked : Talked (retr number ∷ []) (reply ∷ []) old.place new.place
  pub stored : Appended old.store.mbox new.store.mbox (body_text reply.body ∷ [])
  pub saves : MarksEntry old.store.mbox old.file old.rows uid (body_text reply.body) cut.fault new.file
  pub lines : new.lines ≡ old.lines ++ delivered number reply ∷ []

-- a message was deleted, and the store, which was asked once more before QUIT, refused: QUIT wasn't said
pub record NotLeft (next : Task) (old new : Scene) (cut : Cut) : Type 0 where
  pub none : cut.rest ≡ None
  pub is : next ≡ says quit
  pub deleted : has_deletions old.lines ≡ true
  pub refuses : RefusesAgain old.store cut.fault new.store
  pub place : new.place ≡ old.place
  pub file : new.file ≡ old.file
  pub rows : new.rows ≡ old.rows
  pub lines : new.lines ≡ old.lines

-- the text wasn't stored, or QUIT wasn't said
abbrev pub NotStored : Target → Task → Scene → Scene → Cut → Type 0
NotStored (AsFiles account) next old new cut = NoFile account next old new cut
NotStored AsEntries next old new cut = NoRoomForText next old new cut
    ⊎ (NoEntry next old new cut ⊎ NotLeft next old new cut)

-- it was stored, and the record wasn't saved
abbrev pub NotSaved : Target → Task → Scene → Scene → Cut → Type 0
NotSaved (AsFiles account) next old new cut = FileNotSaved account next old new cut
NotSaved AsEntries next old new cut = EntryNotSaved next old new cut

-- a task was begun, and not brought to its end
abbrev pub Stops : Target → Task → Scene → Cut → Scene → Type 0
Stops target next old cut new = Broken next old new cut
    ⊎ (NotStored target next old new cut ⊎ NotSaved target next old new cut)

-- some of the tasks went well, and the next one stopped
pub record Fell (target : Target) (tasks : List Task) (old : Scene) (cut : Cut) (new : Scene) : Type 0 where
  pub dones : List Done
  pub next : Task
  pub later : List Task
  pub mid : Scene
  pub split : tasks ≡ tasks_of dones ++ (next ∷ later)
  pub went : Went target dones old mid
  pub stops : Stops target next mid cut new

-- a list of tasks was done
pub record AllWent (target : Target) (tasks : List Task) (old new : Scene) : Type 0 where
  pub dones : List Done
  pub all : tasks ≡ tasks_of dones
  pub went : Went target dones old new

-- one task
abbrev pub TakesTask : Target → Task → Scene → Result (Unit {0}) Cut → Scene → Type 0
TakesTask target task old (Ok done) new = (replies : List WholeReply)
    × Went target (record { task = task; replies = replies } ∷ []) old new
TakesTask target task old (Err cut) new = Stops target task old cut new

-- a list of tasks
abbrev pub Does : Target → List Task → Scene → Result (Unit {0}) Cut → Scene → Type 0
Does target tasks old (Ok done) new = AllWent target tasks old new
Does target tasks old (Err cut) new = Fell target tasks old cut new

-- what is known of a call if the link, the store and the record's file are sound after it: they were sound
-- before, the link leads on from what it was, and the call did this
abbrev pub WhereAllSound : {W D F : Type 0} → (W → Type 0) → (W → W → Type 0) → (D → Type 0) → (F → Type 0) → W → W
    → D → D → F → F → Type 0 → Type 0
WhereAllSound wire_is leads_to disk_is file_is wire wire' disk disk' file file' did =
    wire_is wire' → disk_is disk' → file_is file'
    → wire_is wire × disk_is disk × file_is file × leads_to wire wire' × did
