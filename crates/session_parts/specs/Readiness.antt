-- What a session has ready before its first task, or why it isn't ready.
use Rattle.std.specs.{
  Prelude.{◌≡◌, ◌≢◌, ◌⊎◌, ◌<◌, ℕ, Bool, true, false, All, List, [], length, map, not, Option, None, Some},
  Prelude.{Result, Ok, Err},
  List.AllByRecursion,
}
use Rattle.mail_terms.specs.Listing.{Item}
use Rattle.fetch_record.specs.{
  Intents.closed_rows,
  Record.{Row, RecordState, IsRecord, Loaded, has_row, is_delivered, none_open, merged},
  RecordFile.file_of,
}
use Rattle.fetch_rules.specs.{Plan.{IsQuiet, planned}, declared.plans.Step.Step}
use Rattle.session_parts.specs.{
  Task.tasks_planned,
  declared.fault.Fault.{Fault, TheVariants.{StoreRefused, SeenRefused, BadSeen, NoMemory}},
  declared.fault.Why.TheVariants.{Missing, Refused, NotMbox},
  declared.readiness.{Found.Found, Ready.Ready},
  Mbox.{AsksMbox, IsSettledAtMost, LeavesSame},
  Record.{Keeps, Steady, Misread, FileReadAs, bytes_in},
  Target.{Kind, Files, Entries, MayBeOdd, Target, AsFiles, AsEntries, Stores, closed_file, held_flags, odd_in},
  Target.{in_maildir, none_held, closed_rows_in, stores_of, target_of},
  declared.work.Store.Store,
}
use Rattle.rc_file.specs.declared.settings.Settings.{Settings}
use Rattle.mail_store.specs.{
  FlatFile.{Stored, holding},
  Maildir.{AllNamed, Maildir},
  Mboxrd.MayGoOn,
  declared.{fault.StoreFault.StoreFault, file.flat_file.FlatFile.Ghosts as FileGhosts},
  declared.maildir.disk.MaildirDisk.Ghosts as DiskGhosts,
  Devices.stored_in,
  MboxCalls.TellsMbox,
  Held.{AreById, FoundDurable, flags_asked, odd_flags},
}
use Rattle.mail_store.specs.declared.fault.StoreFault.TheVariants as refused

-- a folder isn't there, or a call was refused, or memory ran out
abbrev pub FindsRefused : Maildir → Fault → Maildir → Type 0
FindsRefused old (StoreRefused Missing) new = ((old.there.new ≡ false) ⊎ (old.there.cur ≡ false)) × (new ≡ old)
FindsRefused old (StoreRefused Refused) new = new ≡ Rattle.mail_store.specs.Maildir.maildir_refused old
FindsRefused old NoMemory new = new ≡ old
FindsRefused old _ new = ⊥

-- for each message, whether these rows don't show it as delivered
abbrev pub are_undelivered : List Row → List Item → List Bool
are_undelivered rows items = map (λ (item : Item). not (is_delivered rows item.uid)) items

-- the name of each file of a Maildir is durable, and so is a file of each listed message that is held there and that
-- these rows don't show as delivered
abbrev pub AreDurable : Target → List Row → List Item → Stores → Type 0
AreDurable (AsFiles account) rows items store =
    AllNamed store.maildir.files × FoundDurable account store.maildir items (are_undelivered rows items)
AreDurable AsEntries rows items store = Unit {0}

-- for each message, whether it is held, if all are to be read or these rows don't show it as delivered; else false
abbrev pub flags_found : Bool → Target → List Row → Stores → List Item → List Bool
flags_found read_all (AsFiles account) rows store items =
    flags_asked read_all account store.maildir items (are_undelivered rows items)
flags_found read_all AsEntries rows store items = none_held items

-- each message has both flags, and the one that says whether it is odd goes by its id; in an mboxrd file none is odd
abbrev pub HasFlags : Kind → List Item → Found → Type 0
HasFlags kind items found = (length found.held.items ≡ length items)
    × ((by : AreById items found.odd.items) × MayBeOdd kind by.0)

-- which of the messages that were asked for are held was found, the files of those that aren't delivered are durable,
-- and of which what can't be opened bears the name; or why not
abbrev pub FindsHeld : Bool → List ℕ → List Row → Maildir → List Item → Result Found Fault → Maildir → Type 0
FindsHeld read_all account rows old items (Ok found) new =
    (found.held.items ≡ flags_found read_all (AsFiles account) rows (in_maildir old) items)
    × (found.stored ≡ false) × (new ≡ old) × AreDurable (AsFiles account) rows items (in_maildir old)
    × (found.odd.items ≡ odd_flags account old items)
FindsHeld read_all account rows old items (Err fault) new = FindsRefused old fault new

-- what a store holds was asked of it, after this record was read
abbrev pub FindsIn : Bool → Target → RecordState → Stores → List Item → Result Found Fault → Stores → Type 0
FindsIn read_all (AsFiles account) was old items (Ok found) new =
    (found.held.items ≡ flags_found read_all (AsFiles account) was.rows old items)
    × (found.stored ≡ false) × (new ≡ old) × AreDurable (AsFiles account) was.rows items old
    × (found.odd.items ≡ odd_flags account old.maildir items)
FindsIn read_all (AsFiles account) was old items (Err fault) new = FindsRefused old.maildir fault new.maildir
FindsIn read_all AsEntries was old items result new = AsksMbox was.intent old.mbox items result new.mbox

-- the store was asked, and in an mboxrd file what the open intent had left was cut off or counted
abbrev pub SettlesStore : Target → RecordState → List Item → Stores → Stores → Type 0
SettlesStore (AsFiles account) was items old new = new ≡ old
SettlesStore AsEntries was items old new = (bytes : List ℕ) × (old.mbox.content ≡ Some bytes)
    × (new.mbox ≡ holding old.mbox (closed_file was.intent items bytes)) × MayGoOn (closed_file was.intent items bytes)

-- the record once its open intent was ended and the listing merged into it
abbrev pub merged_in : Target → Stores → RecordState → List Item → ℕ → List Row
merged_in target store was items now = merged (closed_rows_in target store was items) items
    (held_flags target store items) now

-- the same of a record that was read and of what was found
abbrev pub taken_in : Loaded → Found → List Item → ℕ → List Row
taken_in seen found items now = merged (closed_rows found.stored seen.rows seen.intent) items found.held.items now

-- a file was read as this record, and whether it is missing or empty is said
pub record IsAsRead {F : Type 0} (file : FileGhosts F) (f : F) (seen : Loaded) (is_new : Bool) : Type 0 where
  pub stands : file.sound f → FileReadAs (stored_in file f).content seen
  pub begun : file.sound f → is_new ≡ false → bytes_in (stored_in file f).content ≢ []

-- what the store holds can change neither the record nor what is done: each listed id is recorded as delivered, the
-- steps that are planned, whatever is odd, neither fetch nor delete anything, and no intent is open
pub record IsIdle (settings : Settings) (seen : Loaded) (items : List Item) (now : ℕ) (steps : List Step) : Type 0 where
  pub is_record : IsRecord seen.rows
  pub known : All (λ (item : Item). is_delivered seen.rows item.uid ≡ true) items
  pub planned : (is_odd : List ℕ → Bool) → steps ≡ planned settings is_odd seen.rows items now
  pub quiet : All IsQuiet steps
  pub closed : seen.intent ≡ None

-- the file was read as a record that must be written anew before something may be appended to it
abbrev pub IsStale : Option (List ℕ) → Type 0
IsStale content = (loaded : Loaded) × FileReadAs content loaded × (loaded.stale ≡ true)

-- the file stood for these rows, with no intent open, and had to be written anew: so it was
abbrev pub IsAnew : List Row → Stored → Stored → Type 0
IsAnew rows old new = Keeps old.content (none_open rows) × IsStale old.content
    × (new ≡ holding old (file_of rows None))

-- the file is as it was, unless it had to be written anew
abbrev pub IsFileKept : List Row → Stored → Stored → Type 0
IsFileKept rows old new = (new ≡ old) ⊎ IsAnew rows old new

-- both folders of a Maildir are there; or one isn't, or a call was refused
abbrev pub ChecksBoth : {T : Type 0} → Maildir → Result T StoreFault → Maildir → Type 0
ChecksBoth old (Ok done) new = (old.there.new ≡ true) × (old.there.cur ≡ true) × (new ≡ old)
ChecksBoth old (Err refused.Missing) new = ((old.there.new ≡ false) ⊎ (old.there.cur ≡ false)) × (new ≡ old)
ChecksBoth old (Err refused.Refused) new = new ≡ Rattle.mail_store.specs.Maildir.maildir_refused old
ChecksBoth old (Err refused.NotMbox) new = ⊥
ChecksBoth old (Err refused.NoMemory) new = ⊥

-- a store was looked at: whether both folders of a Maildir are there, or whether an entry may follow an mboxrd file
abbrev pub ChecksStore : {T : Type 0} → Kind → Stores → Result T StoreFault → Stores → Type 0
ChecksStore Files old result new = ChecksBoth old.maildir result new.maildir × (new.mbox ≡ old.mbox)
ChecksStore Entries old result new = (TellsMbox old.mbox.content result × LeavesSame old.mbox result new.mbox)
    × (new.maildir ≡ old.maildir)

-- nothing was done to a store, in which there is a place for what may come; or why there is none
abbrev pub ChecksIdle : Kind → Stores → List Item → Result Ready Fault → Stores → Type 0
ChecksIdle kind old items (Ok ready) new = ChecksStore {T = Unit {0}} kind old (Ok tt) new
ChecksIdle Files old items (Err fault) new = FindsRefused old.maildir fault new.maildir
ChecksIdle Entries old items (Err fault) new = AsksMbox None old.mbox items (Err fault) new.mbox
    × (new.maildir ≡ old.maildir)

-- the flags are those of the store, as far as the steps use them
abbrev pub AreAsHeld : List Step → List Item → List Bool → List Bool → Type 0
AreAsHeld steps items flags held = tasks_planned steps items flags ≡ tasks_planned steps items held

-- the same of what is ready, and of the store once it was asked
abbrev pub IsHeldAsIn : {D F : Type 0} → DiskGhosts D → FileGhosts F → Store D F → List ℕ → List Item → Ready
    → Store D F → Type 0
IsHeldAsIn disk file was account items ready store = AreAsHeld ready.steps.items items ready.held.items
    (held_flags (target_of was account) (stores_of disk file store) items)

-- some ids, in an mboxrd file none, are odd: by them each listed message has a step of the plan; it has a flag, and
-- each listed id a row; no intent is open
pub record HasPlan (kind : Kind) (settings : Settings) (items : List Item) (now : ℕ) (ready : Ready) (seen : Loaded)
    : Type 0 where
  pub is_odd : List ℕ → Bool
  pub may_be : MayBeOdd kind is_odd
  pub steps : ready.steps.items ≡ planned settings is_odd seen.rows items now
  pub lengths : (length ready.steps.items ≡ length items) × (length ready.held.items ≡ length items)
  pub rows : AllByRecursion (λ (item : Item). has_row seen.rows item.uid ≡ true) items
  pub closed : seen.intent ≡ None

-- the record was read, merged and saved, and the plan made; no intent is open any more. Nothing is to be fetched or
-- deleted and the record's file was kept, or what was found is durable
pub record IsReady (settings : Settings) (target : Target) (items : List Item) (now : ℕ) (store : Stores)
    (file : Stored) (ready : Ready) (after : List Row) (store' : Stores) (file' : Stored) : Type 0 where
  pub was : RecordState
  pub stood : Keeps file.content was
  pub held : AreAsHeld ready.steps.items items ready.held.items (held_flags target store items)
  pub rows : after ≡ merged_in target store was items now
  pub steps : ready.steps.items ≡ planned settings (odd_in target store) after items now
  pub durable : (All IsQuiet ready.steps.items × IsFileKept after file file') ⊎ AreDurable target was.rows items store
  pub saved : Steady file'.content (none_open after)
  pub file_count : file'.failures ≡ file.failures
  pub settles : SettlesStore target was items store store'

-- why it isn't ready
abbrev pub UnreadyCause : Fault → Maildir → Stored → Maildir → Stored → Type 0
UnreadyCause SeenRefused maildir file maildir' file' = (file.failures < file'.failures) × (maildir' ≡ maildir)
UnreadyCause (BadSeen line) maildir file maildir' file' = Misread file line file' × (maildir' ≡ maildir)
UnreadyCause (StoreRefused Missing) maildir file maildir' file' = ((maildir.there.new ≡ false)
    ⊎ (maildir.there.cur ≡ false)) × (maildir' ≡ maildir)
UnreadyCause (StoreRefused Refused) maildir file maildir' file' = maildir'
    ≡ Rattle.mail_store.specs.Maildir.maildir_refused maildir
UnreadyCause NoMemory maildir file maildir' file' = maildir' ≡ maildir
UnreadyCause _ maildir file maildir' file' = ⊥

-- the mboxrd file is as it was, or settled by the intent of the record that was read
abbrev pub IsSettledBy : List Item → Stored → Stored → Stored → Type 0
IsSettledBy items file mbox mbox' = (mbox'.content ≡ mbox.content)
    ⊎ ((was : RecordState) × Keeps file.content was × IsSettledAtMost was.intent items mbox mbox')

abbrev pub MboxUnready : List Item → Fault → Stored → Stored → Stored → Stored → Type 0
MboxUnready items SeenRefused mbox file mbox' file' = (file.failures < file'.failures)
    × IsSettledBy items file mbox mbox'
MboxUnready items (BadSeen line) mbox file mbox' file' = Misread file line file' × (mbox' ≡ mbox)
MboxUnready items (StoreRefused Missing) mbox file mbox' file' = (mbox.content ≡ None) × (mbox' ≡ mbox)
MboxUnready items (StoreRefused Refused) mbox file mbox' file' = (mbox.failures < mbox'.failures)
    × IsSettledBy items file mbox mbox'
MboxUnready items (StoreRefused NotMbox) mbox file mbox' file' =
    ((bytes : List ℕ) × (mbox'.content ≡ Some bytes) × (MayGoOn bytes → ⊥))
    × IsSettledBy items file mbox mbox'
MboxUnready items NoMemory mbox file mbox' file' = IsSettledBy items file mbox mbox'
MboxUnready items _ mbox file mbox' file' = ⊥

abbrev pub CausesUnready : Target → List Item → Fault → Stores → Stored → Stores → Stored → Type 0
CausesUnready (AsFiles account) items fault store file store' file' = UnreadyCause fault store.maildir file
    store'.maildir file'
CausesUnready AsEntries items fault store file store' file' = MboxUnready items fault store.mbox file store'.mbox file'

-- the store was settled, what was found changes no row or is durable, and the file stands for the record or for the
-- merged one
pub record IsMerged (target : Target) (items : List Item) (now : ℕ) (store : Stores) (file : Stored) (store' : Stores)
    (file' : Stored)
    : Type 0 where
  pub was : RecordState
  pub stood : Keeps file.content was
  pub settles : SettlesStore target was items store store'
  pub durable : (merged_in target store was items now ≡ was.rows) ⊎ AreDurable target was.rows items store
  pub stands : Keeps file'.content was ⊎ Keeps file'.content (none_open (merged_in target store was items now))

-- the file is as it was, or that
abbrev pub IsMergedAtMost : Target → List Item → ℕ → Stores → Stored → Stores → Stored → Type 0
IsMergedAtMost target items now store file store' file' =
    (file'.content ≡ file.content) ⊎ IsMerged target items now store file store' file'

pub record Unready (target : Target) (items : List Item) (now : ℕ) (store : Stores) (file : Stored)
    (fault : Fault) (store' : Stores) (file' : Stored) : Type 0 where
  pub cause : CausesUnready target items fault store file store' file'
  pub content : IsMergedAtMost target items now store file store' file'

abbrev pub Readies : Settings → Target → List Item → ℕ → Stores → Stored → Result Ready Fault → List Row → Stores
    → Stored → Type 0
Readies settings target items now store file
    (Ok ready) after store' file' = IsReady settings target items now store file ready after store' file'
Readies settings target items now store file
    (Err fault) after store' file' = Unready target items now store file fault store' file'
