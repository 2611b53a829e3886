-- What of a session is durable, by what the devices of its files say. What of a Maildir is durable, `SessionIn`
-- says.
use Rattle.std.{
  specs.Prelude.{◌≡◌, ◌≢◌, ◌⊎◌, ℕ, List, [], ◌∷◌, ◌++◌, length, Option, None, Some, Result, Ok, Err, OnOk, OnErr},
  specs.List.flat_map,
  proofs.Common.{inl, inr},
}
use Rattle.mail_store.specs.{
  Devices.{KnownFile, stored_in},
  declared.{maildir.disk.MaildirDisk.Ghosts as DiskGhosts, file.flat_file.FlatFile.Ghosts as FileGhosts},
  Durable.{Disk, IsDurable as IsFileDurable, Trusted, MayLeave, seen_on},
  FlatFile.Stored,
  Mboxrd.entry_of,
  Settling.MayBeLeft,
  Maildir.{File, IsDurableFile, Maildir},
  Power.{KeepsWhole, IsLeftWhole, LeavesCut, LeavesEither, LeavesNoMore, LeavesAll},
}
use Rattle.mail_terms.specs.Listing.{Item}
use Rattle.pop3_client.specs.Texts.{body_text}
use Rattle.pop3_wire.specs.{Link.Link, Place.Place, declared.wire.Wire.Ghosts as WireGhosts}
use Rattle.rc_file.specs.declared.settings.Settings.{Settings}
use Rattle.fetch_record.specs.{Record.{Row, RecordState, Intent, none_open, marked, marked_all}, RecordGrowth.Grows}
use Rattle.fetch_record.specs.RecordFile.{file_of}
use Rattle.session_parts.specs.{
  declared.{work.Store.{Store, TheVariants.{Maildir as InMaildir, Mboxrd as InMbox}}, fault.{Cut.Cut, Fault.Fault}},
  declared.{readiness.Ready.Ready, report.{Report.Report, ReportLine.ReportLine, Skips.Skips}, work.Work.Work},
  Mbox.intent_of,
  Account.{Holding, digits_of},
  CarryingOut.{Carried, Carries, tasks_ahead},
  Readiness.{IsFileKept, IsMergedAtMost, Readies, merged_in},
  Record.{Keeps, Merges, Saves, Steady, TakesBack, record_state, stored_of, with_open},
  Scene.{EntryNotSaved, NoEntry, Scene, Does, WhereAllSound},
  Session.{Keeping, Noted, Proceeds, SessionIn, keeping},
  Target.{Target, AsFiles, AsEntries, AfterTakingIn, Stores, is_sound, mbox_of, stores_of, target_of},
  Task.{Task, Done, ids_in, marked_ids, done_texts},
}

-- ---- what the devices say

-- a loss of power may leave this of the mboxrd file
abbrev pub may_leave_in : {D F : Type 0} → FileGhosts F → Store D F → Option (List ℕ) → Type 0
may_leave_in file (InMaildir device) left = Unit {0}
may_leave_in file (InMbox device) left = MayLeave (file.disk device) left

-- no flush of the mboxrd file was refused
abbrev pub is_trusted : {D F : Type 0} → FileGhosts F → Store D F → Type 0
is_trusted file (InMaildir device) = Unit {0}
is_trusted file (InMbox device) = Trusted (file.disk device).now

-- a file is durable, a loss of power leaves exactly its bytes, and no flush of it was refused
abbrev pub IsDiskSafe : Disk → Type 0
IsDiskSafe disk = Trusted disk.now × IsLeftWhole (seen_on disk) (IsFileDurable disk) (MayLeave disk)

abbrev pub IsSafeFile : {F : Type 0} → FileGhosts F → F → Type 0
IsSafeFile file f = IsDiskSafe (file.disk f)

-- the same for an mboxrd file
abbrev pub IsSafeStore : {D F : Type 0} → FileGhosts F → Store D F → Type 0
IsSafeStore file (InMaildir device) = Unit {0}
IsSafeStore file (InMbox device) = IsSafeFile file device

abbrev pub IsSafeWork : {D F H Z : Type 0} → FileGhosts F → Work D F H Z → Type 0
IsSafeWork file work = IsSafeFile file work.ledger.file × IsSafeStore file work.store

-- ---- what calls keep of it

abbrev pub KeepsMboxIn : {D F : Type 0} → FileGhosts F → Store D F → Store D F → Type 0
KeepsMboxIn file old new = KeepsWhole (mbox_of file old).content (may_leave_in file old) (may_leave_in file new)

-- ---- what tasks leave that is durable

-- the texts that these tasks stored as entries, after the bytes that the mboxrd file had
abbrev pub DurableTexts : {D F : Type 0} → FileGhosts F → Target → List Done → Stores → Store D F → Type 0
DurableTexts file (AsFiles account) dones old store = Unit {0}
DurableTexts file AsEntries dones old store =
    (was : List ℕ) → old.mbox.content ≡ Some was
    → LeavesAll (may_leave_in file store) (was ++ flat_map entry_of (done_texts dones))

-- what is left of the record's file begins with bytes that stand for these rows; if there are none, there may be no
-- file
abbrev pub ShowsRows : List Row → Option (List ℕ) → Type 0
ShowsRows rows left = (bytes behind : List ℕ) × ((bytes ≡ []) ⊎ (left ≡ Some (bytes ++ behind)))
    × Steady (Some bytes) (none_open rows)

-- whatever a loss of power leaves of it does
abbrev pub RowsLast : Disk → List Row → Type 0
RowsLast disk rows = (left : Option (List ℕ)) → MayLeave disk left → ShowsRows rows left

abbrev pub DurableRows : {F : Type 0} → FileGhosts F → F → List Row → Type 0
DurableRows file f rows = RowsLast (file.disk f) rows

-- these rows are still durable, if they were
abbrev pub StillDurable : {F : Type 0} → FileGhosts F → List Row → F → F → Type 0
StillDurable file rows old new = DurableRows file old rows → DurableRows file new rows

-- all of a session's files
abbrev pub KeepsWork : {D F H Z : Type 0} → FileGhosts F → Work D F H Z → Work D F H Z → Type 0
KeepsWork file old new =
    KeepsMboxIn file old.store new.store × StillDurable file old.ledger.seen.rows old.ledger.file new.ledger.file

-- this holds of whatever a loss of power leaves of a file that is there
abbrev pub LeavesOn : Disk → (Option (List ℕ) → Type 0) → Type 0
LeavesOn disk Is = (bytes : List ℕ) → seen_on disk ≡ Some bytes → (left : Option (List ℕ)) → MayLeave disk left
    → Is left

abbrev pub LeavesFile : {F : Type 0} → FileGhosts F → F → (Option (List ℕ) → Type 0) → Type 0
LeavesFile file f Is = LeavesOn (file.disk f) Is

-- bytes that stand for this record, and behind them what a loss of power may leave of what was appended; nothing is
-- appended to an empty file
pub record IsRecordLeft (was : RecordState) (added : List ℕ) (left : Option (List ℕ)) : Type 0 where
  pub bytes : List ℕ
  pub behind : List ℕ
  pub is : left ≡ Some (bytes ++ behind)
  pub stands : Steady (Some bytes) was
  pub part : MayBeLeft (length bytes) added behind
  pub begun : (behind ≡ []) ⊎ (bytes ≢ [])

-- this record is left, or it is and a part of what was appended to make it that one, or all of that
pub record IsGrownAtMost (was now : RecordState) (left : Option (List ℕ)) : Type 0 where
  pub added : List ℕ
  pub file : IsRecordLeft was added left
  pub grows : (file.behind ≡ []) ⊎ Grows was.rows was.intent added now.rows now.intent

-- what calls that changed a record may leave, whatever they answered: what calls see; what was durable still is, and a
-- safe file is safe after Ok; of one that stood for the record that is left, and perhaps a part of what was appended
pub record DurablySaves (was now : RecordState) (old : KnownFile) (result : Result (Unit {0}) Fault) (new : KnownFile)
    : Type 0 where
  pub sees : Saves (stored_of old) was now result (stored_of new)
  pub keeps : (rows : List Row) → RowsLast old.disk rows → RowsLast new.disk rows
  pub durable : IsDiskSafe old.disk → OnOk result (IsDiskSafe new.disk)
  pub leaves : Steady (seen_on old.disk) was → IsDiskSafe old.disk → LeavesOn new.disk (IsGrownAtMost was now)
  pub merges : Steady (seen_on old.disk) was → IsDiskSafe old.disk → (left : Option (List ℕ)) → MayLeave new.disk left
      → MayLeave old.disk left ⊎ IsGrownAtMost was now left

-- the same once these rows were written whole: the file stands for the old record or for them, and so does what is left
pub record DurablyWrites (rows : List Row) (old : KnownFile) (result : Result (Unit {0}) Fault) (new : KnownFile)
    : Type 0 where
  pub sees : (was : RecordState) → Keeps (seen_on old.disk) was
      → Merges (stored_of old) was (none_open rows) result (stored_of new)
  pub stands : Steady (Some (file_of rows None)) (none_open rows)
  pub durable : OnOk result (IsDiskSafe new.disk)
  pub leaves : LeavesEither (MayLeave old.disk) (file_of rows None) (MayLeave new.disk)

-- the same once an intent was opened, and the file was then cut to the size that it had before
pub record DurablyTakesBack (rows : List Row) (intent : Intent) (old new : KnownFile) : Type 0 where
  pub sees : TakesBack (stored_of old) (with_open rows intent) (stored_of new)
  pub keeps : RowsLast old.disk rows → RowsLast new.disk rows
  pub leaves : IsDiskSafe old.disk → LeavesOn old.disk (IsGrownAtMost (none_open rows) (with_open rows intent))
      → LeavesOn new.disk (IsGrownAtMost (none_open rows) (with_open rows intent))

-- these rows are left, and what there may be of one group or intent behind them makes no others of them than those
pub record AreLeft (rows others : List Row) (left : Option (List ℕ)) : Type 0 where
  pub before : Option Intent
  pub added : List ℕ
  pub next : List Row
  pub after : Option Intent
  pub grows : Grows rows before added next after
  pub next_is : (next ≡ rows) ⊎ (next ≡ others)
  pub file : IsRecordLeft (record_state rows before) added left

-- what these tasks stored and marked is durable; and at most a part of one intent, or of the marks of these other
-- ids, may be left behind it
pub record DurableDones {D F : Type 0} (file : FileGhosts F) (target : Target) (dones : List Done) (next : List
    (List ℕ))
    (old : Scene) (store : Store D F) (f : F) : Type 0 where
  pub texts : DurableTexts file target dones old.store store
  pub rows : DurableRows file f (marked_all old.rows (marked_ids dones))
  pub left : LeavesFile file f (AreLeft (marked_all old.rows (marked_ids dones))
      (marked_all (marked_all old.rows (marked_ids dones)) next))

-- one file came, and it is durable
abbrev pub OneDurable : Maildir → Maildir → Type 0
OneDurable old new = (f : File) × (new.files ≡ old.files ++ f ∷ []) × IsDurableFile f

-- what is left of a record and of an mboxrd file of these bytes, once a text's entry was to be appended and marked:
-- nothing of the entry, and its intent may be open; its intent is, and what may be left of the entry is there; or all
-- of the entry, and its id may be marked
abbrev pub IsEntryLeft : List Row → List ℕ → List ℕ → List ℕ → Option (List ℕ) → Option (List ℕ) → Type 0
IsEntryLeft rows bytes uid text left mbox =
    let opened = with_open rows (intent_of bytes uid text) in
    (IsGrownAtMost (none_open rows) opened left × (mbox ≡ Some bytes))
    ⊎ ((IsGrownAtMost opened opened left × ((part : List ℕ) × (mbox ≡ Some (bytes ++ part))
    × MayBeLeft (length bytes) (entry_of text) part))
    ⊎ (IsGrownAtMost opened (none_open (marked rows uid)) left × (mbox ≡ Some (bytes ++ entry_of text))))

-- this holds of each pair that a loss of power may leave of the record's file and of an mboxrd file that had these
-- bytes, if no flush of the latter was refused
abbrev pub LeavesBothOn : Option (List ℕ) → Disk → Disk → (List ℕ → Option (List ℕ) → Option (List ℕ) → Type 0) → Type 0
LeavesBothOn content mbox disk Are = Trusted mbox.now → (bytes : List ℕ) → content ≡ Some bytes
    → (left : Option (List ℕ)) → MayLeave mbox left → LeavesOn disk (λ seen. Are bytes seen left)

abbrev pub LeavesBoth : {F : Type 0} → FileGhosts F → Option (List ℕ) → F → F
    → (List ℕ → Option (List ℕ) → Option (List ℕ) → Type 0) → Type 0
LeavesBoth file content mbox f Are = LeavesBothOn content (file.disk mbox) (file.disk f) Are

-- whatever calls answered that appended the entry of a text, after its intent was written: no byte of the mboxrd file
-- is lost, and the rows stay durable; after Ok both files are safe; and this is left of them, if they were safe
pub record DurablyEnters (rows : List Row) (uid text : List ℕ) (mbox file : KnownFile)
    (result : Result (Unit {0}) Fault) (mbox' file' : KnownFile) : Type 0 where
  pub keeps : KeepsWhole (seen_on mbox.disk) (MayLeave mbox.disk) (MayLeave mbox'.disk)
  pub rows_last : RowsLast file.disk rows → RowsLast file'.disk rows
  pub durable : Trusted mbox.disk.now → IsDiskSafe file.disk
      → OnOk result (IsDiskSafe mbox'.disk × IsDiskSafe file'.disk)
  pub left : IsDiskSafe file.disk → (others : List Row) → LeavesOn file'.disk (AreLeft rows others)
  pub cut : Trusted mbox.disk.now → IsDiskSafe file.disk → IsDiskSafe mbox.disk → OnErr result
      (LeavesBothOn (seen_on mbox.disk) mbox'.disk file'.disk (λ bytes. IsEntryLeft rows bytes uid text))

-- both files are left as they were before the task that was cut; or its text was read and its entry not appended, or
-- its mark not saved, and of the entry that is left
abbrev pub IsCutLeft : Task → Scene → Cut → Scene → List ℕ → Option (List ℕ) → Option (List ℕ) → Type 0
IsCutLeft next old cut new bytes left mbox =
    (IsGrownAtMost (none_open old.rows) (none_open old.rows) left × (mbox ≡ Some bytes))
    ⊎ (((n : NoEntry next old new cut) × IsEntryLeft old.rows bytes n.uid (body_text n.reply.body) left mbox)
    ⊎ ((u : EntryNotSaved next old new cut) × IsEntryLeft old.rows bytes u.uid (body_text u.reply.body) left mbox))

-- no mark of the task that was cut may be left; or its file came and is durable. Of both files of an account with an
-- mboxrd file that is left
abbrev pub DurableCut : {D F : Type 0} → FileGhosts F → Target → Task → Scene → Cut → Scene → Store D F → F → Type 0
DurableCut file (AsFiles account) next old cut new store f = LeavesFile file f (AreLeft old.rows old.rows)
    ⊎ OneDurable old.store.maildir new.store.maildir
DurableCut file AsEntries next old cut new (InMaildir device) f = Unit {0}
DurableCut file AsEntries next old cut new (InMbox mbox) f =
    LeavesBoth file old.store.mbox.content mbox f (IsCutLeft next old cut new)

-- the same for the tasks of a list that were done, and for the one that was cut; if none was, the files are safe
abbrev pub Durably : {D F : Type 0} → FileGhosts F → (target : Target) (tasks : List Task) (old : Scene)
    (result : Result (Unit {0}) Cut) (new : Scene) → Does target tasks old result new → Store D F → F → Type 0
Durably file target tasks old (Ok done) new does store f = DurableDones file target does.dones [] old store f
    × IsSafeFile file f × IsSafeStore file store
Durably file target tasks old (Err cut) new does store f = DurableDones file target does.dones
    (ids_in does.next) old store f
    × DurableCut file target does.next does.mid cut new store f

-- a list of tasks was done, or as far as went well; and if this premise holds, what was done is durable
pub record DoesDurably {D F : Type 0} (file : FileGhosts F) (safe : Type 0) (target : Target) (tasks : List Task)
    (old : Scene) (result : Result (Unit {0}) Cut) (new : Scene) (store : Store D F) (f : F) : Type 0 where
  pub does : Does target tasks old result new
  pub durable : safe → Durably file target tasks old result new does store f

-- ---- a whole session

-- no flush of the record's file or of an mboxrd file was refused
abbrev pub AreTrusted : {D F : Type 0} → FileGhosts F → Store D F → F → Type 0
AreTrusted files was from = is_trusted files was × Trusted (files.disk from).now

-- nothing was written to the record's file: a loss of power leaves no more of it than before
pub record IsRecordUntouched {F : Type 0} (files : FileGhosts F) (from f : F) : Type 0 where
  pub no_more : LeavesNoMore (MayLeave (files.disk from)) (MayLeave (files.disk f))
  pub same : stored_in files f ≡ stored_in files from

-- what may be left of the record's file could be left before, or it is this record, perhaps with a part of what makes
-- it those rows, or it is those
abbrev pub LeavesMerged : (Option (List ℕ) → Type 0) → RecordState → List Row → (Option (List ℕ) → Type 0) → Type 0
LeavesMerged may_leave was rows may_leave' = (left : Option (List ℕ)) → may_leave' left
    → may_leave left ⊎ (IsGrownAtMost was (none_open rows) left
    ⊎ IsGrownAtMost (none_open rows) (none_open rows) left)

-- no more of an mboxrd file may be left than before
abbrev pub LeavesStore : {D F : Type 0} → FileGhosts F → Store D F → Store D F → Type 0
LeavesStore files was store = LeavesNoMore (may_leave_in files was) (may_leave_in files store)

-- once an open intent was settled in it, or while it was, this is left of it: what could be left before, or that cut
-- back to the intent's place
abbrev pub LeavesSettled : Option Intent → Option (List ℕ) → (Option (List ℕ) → Type 0) → (Option (List ℕ) → Type 0)
    → Type 0
LeavesSettled None content may_leave may_leave' = LeavesNoMore may_leave may_leave'
LeavesSettled (Some intent) content may_leave may_leave' = LeavesCut content intent.start may_leave may_leave'

-- the same of a store
abbrev pub LeavesSettledIn : {D F : Type 0} → FileGhosts F → Option Intent → Store D F → Store D F → Type 0
LeavesSettledIn files intent was store =
    LeavesSettled intent (mbox_of files was).content (may_leave_in files was) (may_leave_in files store)

-- what a session leaves of both files that was cut while it prepared the record: no more than before, or the record
-- that was read and a settled mboxrd file; or what a merge leaves, and the settled file. Unless no intent was open, the
-- record was durable before the merge, and the mboxrd file is
abbrev pub DurableUnready : {D F : Type 0} → FileGhosts F → Store D F → F
    → {target : Target} {items : List Item} {now : ℕ} {store : Stores} {file : Stored}
    {store' : Stores} {file' : Stored} → IsMergedAtMost target items now store file store' file' → Store D F → F
    → Type 0
DurableUnready files was from (inl same) store' f = LeavesNoMore (MayLeave (files.disk from)) (MayLeave (files.disk f))
    × (LeavesStore files was store' ⊎ (IsSafeFile files f × ((state : RecordState)
    × Keeps (stored_in files f).content state × LeavesSettledIn files state.intent was store')))
DurableUnready files was from {target} {items} {now} {store} {file} (inr merged) store' f =
    let rows = merged_in target store merged.was items now in
    ((merged.was.intent ≡ None) × LeavesMerged (MayLeave (files.disk from)) merged.was rows (MayLeave (files.disk f))
    × LeavesStore files was store')
    ⊎ (LeavesMerged (λ left. left ≡ file.content) merged.was rows (MayLeave (files.disk f)) × IsSafeStore files store')

-- the record's file wasn't written; or it was written anew, and is safe
abbrev pub DurableKept : {F : Type 0} → FileGhosts F → F → (rows : List Row) (old new : Stored)
    → IsFileKept rows old new
    → F → Type 0
DurableKept files from rows old new (inl same) f = IsRecordUntouched files from f
DurableKept files from rows old new (inr anew) f = (stored_in files f ≡ new) × IsSafeFile files f

-- nothing is to be fetched or deleted, and this is left of the record's file; or what was found is durable, and this
-- holds
abbrev pub UnlessQuiet : {D F : Type 0} → FileGhosts F → Store D F → F → {Quiet Durable : Type 0} → (rows : List Row)
    (old new : Stored) → (Quiet × IsFileKept rows old new) ⊎ Durable → Type 0 → Store D F → F → Type 0
UnlessQuiet files was from rows old new (inl (quiet, kept)) Safe store f = DurableKept files from rows old new kept f
    × LeavesStore files was store
UnlessQuiet files was from rows old new (inr durable) Safe store f = Safe

-- what is ready is durable: the record's file was kept, or the files are safe
abbrev pub DurableReady : {D F : Type 0} → FileGhosts F → Store D F → F
    → (settings : Settings) (target : Target) (items : List Item) (now : ℕ)
    (old : Stores) (file : Stored) (result : Result Ready Fault) (after : List Row) (new : Stores) (file' : Stored)
    → Readies settings target items now old file result after new file' → Store D F → F → Type 0
DurableReady files was from _ _ _ _ _ file (Ok ready) after _ file' is store f =
    UnlessQuiet files was from after file file' is.durable (IsSafeFile files f × IsSafeStore files store) store f
DurableReady files was from _ _ _ _ _ _ (Err fault) _ _ _ unready store f =
    DurableUnready files was from unready.content store f

-- the record was made ready, or wasn't; and if this premise holds, this is left
pub record ReadiesDurably {D F : Type 0} (disk : DiskGhosts D) (files : FileGhosts F) (safe : Type 0)
    (was : Store D F) (from : F) (settings : Settings) (target : Target) (items : List Item) (now : ℕ) (old : Stores)
    (result : Result Ready Fault) (after : List Row)
    (store : Store D F) (f : F) : Type 0 where
  pub readies : Readies settings target items now old (stored_in files from) result after (stores_of disk files store)
      (stored_in files f)
  pub durable : safe → DurableReady files was from _ _ _ _ _ _ _ _ _ _ readies store f

-- what was planned was done, or as much as went well: if no flush was refused before, nothing was to be fetched or
-- deleted and the record's file was kept, or what was done is durable
abbrev pub DurableCarried : {D F : Type 0} → FileGhosts F → Store D F → F → {settings : Settings} {target : Target}
    {items : List Item} {now : ℕ} {place : Place} {old : Stores} {file : Stored} {lines : List ReportLine} {result :
    Result (Unit {0}) Cut}
    {new : Scene} {skipped : Skips} → Carried settings target items now place old file lines result new skipped
    → Store D F → F → Type 0
DurableCarried files was from {settings} {target} {items} {now} {place} {old} {file} {lines} {result} {new} {skipped}
    carried store f =
    AreTrusted files was from → UnlessQuiet files was from carried.mid.rows file carried.mid.file
    carried.prepared.durable
    (Durably files target (tasks_ahead settings target items now old carried.mid.rows) carried.mid result new
    carried.does store f) store f

-- the same, or the record wasn't ready
abbrev pub DurableCarries : {D F : Type 0} → FileGhosts F → Store D F → F → (settings : Settings) (target : Target)
    (items : List Item) (now : ℕ) (place : Place) (old : Stores) (file : Stored) (lines : List ReportLine)
    (result : Result (Unit {0}) Cut)
    (place' : Place) (new : Stores) (file' : Stored) (lines' : List ReportLine) (skipped : Skips)
    → Carries settings target items now place old file lines result place' new file' lines' skipped → Store D F
    → F → Type 0
DurableCarries files was from _ _ _ _ _ _ _ _ (Ok done) _ _ _ _ _
    (rows, carried) store f = DurableCarried files was from carried store f
DurableCarries files was from _ _ _ _ _ _ _ _ (Err cut) _ _ _ _ _ (rows, inl (none, unprepared)) store f =
    AreTrusted files was from → DurableUnready files was from unprepared.unready.content store f
DurableCarries files was from _ _ _ _ _ _ _ _ (Err cut) _ _ _ _ _
    (rows, inr carried) store f = DurableCarried files was from carried store f

-- a session up to its QUIT, or until it was cut: before its listing was known it wrote nothing
abbrev pub DurableProceeds : {D F : Type 0} → FileGhosts F → Store D F → F
    → (settings : Settings) (target : Target) (now : ℕ)
    (old : Place) (before : Keeping) (result : Result (Unit {0}) Cut) (new : Place) (after : Keeping) (notes : Noted)
    → Proceeds settings target now old before result new after notes → Store D F → F → Type 0
DurableProceeds files was from settings target now old before (Ok done) new after notes dealt store f =
    DurableCarries files was from settings target dealt.items now dealt.mid before.store before.file []
    (Ok done) new after.store
    after.file notes.lines notes.skipped dealt.carries store f
DurableProceeds files was from _ _ _ _ _ (Err cut) _ _ _ (inl stopped) store f = IsRecordUntouched files from f
    × LeavesStore files was store
DurableProceeds files was from _ _ _ _ _ (Err cut) _ _ _ (inr (inl wanting)) store f = IsRecordUntouched files from f
    × LeavesStore files was store
DurableProceeds files was from settings target now old before (Err cut) new after notes (inr (inr dealt)) store f =
    DurableCarries files was from settings target dealt.items now dealt.mid before.store before.file []
    (Err cut) new after.store
    after.file notes.lines notes.skipped dealt.carries store f

-- a whole session: if no flush was refused before, what was stored as entries and marked for each task that was done
-- is durable. Tasks are done in order, and a deletion comes after its message's other task, so a DELE is sent only for
-- a message whose mark is
abbrev pub DurableSession : {D F : Type 0} → FileGhosts F → Store D F → F
    → {settings : Settings} {target : Target} {now : ℕ}
    {link : Link} {before : Keeping} {report : Report} {link' : Link} {after : Keeping}
    → SessionIn settings target now link before report link' after → Store D F → F → Type 0
DurableSession files was from session store f = DurableProceeds files was from _ _ _ _ _ _ _ _ _ session.proceeds store
    f

-- a session of an account over these devices, if they are sound after it; and what of its files is durable
abbrev pub RunsSession : {W D F : Type 0} → WireGhosts W → DiskGhosts D → FileGhosts F → ℕ → Holding D F → W → Report
    → Holding D F → W
    → Type 0
RunsSession link disk files now old wire report new wire' =
    WhereAllSound link.sound link.leads_to (is_sound disk files) files.sound wire wire' old.store new.store
    old.file new.file
    (AfterTakingIn (stores_of disk files old.store) (λ left. (session : SessionIn old.settings
    (target_of old.store (digits_of old.settings)) now (link.history wire)
    (keeping left (stored_in files old.file)) report
    (link.history wire') (keeping (stores_of disk files new.store) (stored_in files new.file)))
    × DurableSession files old.store old.file session new.store new.file))
