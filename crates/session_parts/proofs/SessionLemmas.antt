-- How the parts of a session make the whole, also of one that changes nothing, and what of it is durable.
use Rattle.mail_store.specs.Devices.{stored_in}
use Rattle.std.{
  proofs.Common.{◌≡◌, ◌≢◌, ◌⊎◌, ℕ, List, [], ◌∷◌, ◌++◌, Option, None, Some, Result, Ok, Err, refl, sym, ap, subst, ◌∙◌, inl, inr, length},
  proofs.Common.{append_assoc, Bool, false, append-nil, All, map},
  proofs.lemmas.{List.{append-nil, Elements.recursion_from_All}, Grind.flat_map-append, Option.{none-some}},
  specs.List.{flat_map, AllByRecursion},
}
use Rattle.pop3_wire.specs.{Place.{Place, at}, Link.Link}
use Rattle.fetch_record.specs.{Record.{Row, RecordState, Intent, none_open, marked_all, Loaded, merged}, Intents.closed_rows}
use Rattle.mail_store.{
  specs.{FlatFile.{Stored, holding}, Mboxrd.entry_of},
  specs.declared.{maildir.disk.MaildirDisk.Ghosts as DiskGhosts, file.flat_file.FlatFile.Ghosts as FileGhosts},
  specs.{Durable.{IsDurable as IsFileDurable, Trusted, seen_on}, Maildir.{Maildir, File, IsWithout, WereTaken}},
  specs.Power.{LeavesNoMore, LeavesAll},
  proofs.{DiskLemmas.{durable_trust}, DurableLemmas.durable_is_left},
}
use Rattle.pop3_client.specs.{Conversation.{TurnsJoin, Talks}, Turns.quit, declared.fault.ClientFault.ClientFault}
use Rattle.session_parts.{
  specs.declared.{work.Store.{Store, TheVariants.{Maildir as InMaildir, Mboxrd as InMbox}}, work.Work.Work, preview.Preview.Preview},
  specs.declared.{fault.{Cut.Cut, Fault.{Fault, TheVariants.{StoreRefused, NoMemory}}}, readiness.{Ready.Ready, Found.Found}},
  specs.declared.{report.{ReportLine.ReportLine, Report.Report, Skips.Skips}, message_preview.MessagePreview.MessagePreview},
  specs.{Store.Brings, Record.{StandsTill, Steady, bytes_in, record_state, FileReadAs, ReadsRecord, record_state_in}},
  specs.{Scene.{Scene, scene, Went, AllWent}, Task.{Task, Done, ids_in, marked_ids, done_texts, ids_ahead, says, tasks_planned}},
  specs.Durable.{AreLeft, AreTrusted, DurableCarried, DurableCarries, DurableCut, DoesDurably, DurableDones, IsGrownAtMost, IsRecordLeft},
  specs.Durable.{IsSafeFile, IsSafeStore, IsSafeWork, IsRecordUntouched, KeepsWork, IsCutLeft, DurableKept, Durably, LeavesBoth, ShowsRows},
  specs.Durable.{LeavesFile, LeavesMerged, LeavesStore, DurableProceeds, DurableRows, StillDurable, DurableSession},
  specs.Durable.{DurableTexts, UnlessQuiet, may_leave_in},
  specs.Target.{Target, AsFiles, AsEntries, Stores, kind_of, stores_of, target_of, AfterTakingIn, IsSoundMaildir, IsSoundMbox, in_maildir},
  specs.Target.{in_mbox, is_sound, no_maildir, with_maildir, maildir_of, mbox_of, held_flags, closed_file, none_held, closed_rows_in},
  specs.Target.odd_in,
  specs.{CarryingOut.{Carries, Carried, tasks_ahead}, Report.{Reports, skips_of}, Fault.{cut_of, fault_of}},
  specs.Session.{Dealt, Keeping, LeavesLink, Noted, Enters_with, Proceeds, SessionIn, outcome_of, keeping},
  specs.{Readiness.{AreDurable, IsFileKept, IsReady, FindsRefused, SettlesStore}, MessagePreview.message_previews},
  specs.Pretend.{PreviewsMerged, WouldBeUnready, HoldsTheSame, IsUntouched as ChangesNothing, JudgesMbox, LooksAtMbox, LooksIn, Pretends},
  specs.Pretend.{PreviewsSession, counted_as, previews_of, preview_told},
  proofs.SceneLemmas.{is_there, not_whole, till_front, read_keeps, all_on, fell_before, fell_on, marked_on},
  proofs.{ReadyLemmas.{ahead, finding_refused, unread}, RecordLemmas.{grown_rows, no_more_keeps, shown_longer, still_grown}},
}
use Rattle.mail_terms.specs.Listing.{Item}
use Rattle.rc_file.specs.declared.settings.Settings.{Settings}
use Rattle.fetch_rules.specs.{Plan.{IsQuiet, planned}, declared.plans.Step.Step}
use Rattle.session_parts.specs.declared.fault.Why.TheVariants as why

-- ---- what a loss of power may leave of a file

-- what calls see of it is durable
pub durable_safe : {F : Type 0} (files : FileGhosts F) (f : F) → seen_on (files.disk f) ≡ (stored_in files f).content
    → IsFileDurable (files.disk f) → IsSafeFile files f
durable_safe files f shown is = (
  durable_trust _ is,
  λ _ has. (
    is,
    λ left may. durable_is_left (files.disk f) left is may ∙ shown ∙ has,
  ),
)

-- there is no file
pub missing_safe : {F : Type 0} (file : FileGhosts F) (f f' : F) → file.disk f' ≡ file.disk f
    → (stored_in file f).content ≡ None → Trusted (file.disk f).now → IsSafeFile file f'
missing_safe _ f _ same none trust = (rw same trust, λ bytes is. absurd (none-some bytes (sym none ∙ sym (ap seen_on same) ∙ is)))

-- ---- what it may leave of the record's file

module _ {F : Type 0} (file : FileGhosts F) (f : F) where
  -- the file is safe and stands for the record
  pub same_grown : (was now : RecordState) → IsSafeFile file f → Steady (stored_in file f).content was
      → LeavesFile file f (IsGrownAtMost was now)
  same_grown was now safe stood bytes is left may = still_grown _ _ _ _ (rw is at stood) ((safe.1 bytes is).1 left may)

  -- so no rows are left but these, and those that they were to be made
  pub grown_left : (rows others next : List Row) (before after : Option Intent) → (next ≡ rows) ⊎ (next ≡ others)
      → LeavesFile file f (IsGrownAtMost (record_state rows before) (record_state next after)) → LeavesFile file f (AreLeft rows others)
  grown_left rows others next before after next_is leaves bytes is left may = grown_rows _ _ _ _ _ _ next_is (leaves _ is left may)

  -- the file is safe and stands for the rows
  pub same_left : {rows others : List Row} {intent : Option Intent} → IsSafeFile file f
      → Steady (stored_in file f).content (record_state rows intent) → LeavesFile file f (AreLeft rows others)
  same_left {rows} {others} {intent} safe stood = grown_left rows others rows intent intent (inl refl)
      (same_grown (record_state rows intent) (record_state rows intent) safe stood)

-- ---- texts

-- the texts of these tasks, and then those of others
texts_on : {D F : Type 0} (file : FileGhosts F) (target : Target) (xs ys : List Done) (a b : Stores) (new : Store D F)
    → Brings target xs a b → DurableTexts file target ys b new → DurableTexts file target (xs ++ ys) a new
texts_on _ (AsFiles _) _ _ a b _ _ then = tt
texts_on _ AsEntries xs _ a b _ brings then = λ was is.
    simp (flat_map-append, ← append_assoc) (then (was ++ flat_map entry_of (done_texts xs)) (rw (brings.content, is)))

-- ---- tasks

dones_on : {D F : Type 0} (file : FileGhosts F) (target : Target) (xs ys : List Done) (next : List (List ℕ)) (a b : Scene) (new : Store D F)
    (f : F) → Went target xs a b → DurableDones file target ys next b new f → DurableDones file target (xs ++ ys) next a new f
dones_on file target xs ys next a b new f went then =
    let same : marked_all b.rows (marked_ids ys) ≡ marked_all a.rows (marked_ids (xs ++ ys)) =
    simp (went.rows, flat_map-append, marked_on) in
    record {
      texts = texts_on file target xs ys a.store b.store new went.stored then.texts;
      rows = subst (λ (rows : List Row). DurableRows file f rows) same then.rows;
      left = subst (λ (rows : List Row). LeavesFile file f (AreLeft rows (marked_all rows next))) same then.left;
    }

-- the same if another premise gives this one, and for another store of this kind
pub in_kind : {D F : Type 0} {file : FileGhosts F} {here safe : Type 0} {tasks : List Task} {old new : Scene}
    {r : Result (Unit {0}) Cut} {store : Store D F} {f : F} (a b : Store D F) (account : List ℕ) → kind_of a ≡ kind_of b
    → DoesDurably file here (target_of a account) tasks old r new store f → (safe → here)
    → DoesDurably file safe (target_of b account) tasks old r new store f
in_kind {r} a b _ same does on = let moved = rw same at does in record { does = moved.does; durable = λ s. moved.durable (on s) }

module _ {D F : Type 0} {file : FileGhosts F} {safe : Type 0} {target : Target} where
  -- some tasks were done, and then others, or not all of them
  pub good_more : TurnsJoin → {xs ys : List Task} {a b c : Scene} (r : Result (Unit {0}) Cut) {new : Store D F} {f : F}
      → (went : AllWent target xs a b) → DoesDurably file safe target ys b r c new f → DoesDurably file safe target (xs ++ ys) a r c new f
  unfolding all_on fell_on
  good_more joining {xs} {ys} {a} {b} {c} (Ok done) {new} {f} went then = record {
    does = all_on joining target xs ys a b c went then.does;
    durable = λ s. let l = then.durable s in
        (dones_on file target went.dones then.does.dones [] a b new f went.went l.0, l.1, l.2);
  }
  good_more joining {xs} {ys} {a} {b} {c} (Err cut) {new} {f} went then = record {
    does = fell_on joining target xs ys a b c cut went then.does;
    durable = λ s. (
      dones_on file target went.dones then.does.dones (ids_in then.does.next) a b new f went.went (then.durable s).0,
      (then.durable s).1,
    );
  }

  -- some of these tasks were done, and none of those after them
  pub good_before : {xs : List Task} (ys : List Task) {a new : Scene} {cut : Cut} {store : Store D F} {f : F}
      → DoesDurably file safe target xs a (Err cut) new store f → DoesDurably file safe target (xs ++ ys) a (Err cut) new store f
  unfolding fell_before
  good_before {xs} ys {a} {new} {cut} does = record {
    does = fell_before _ xs ys a _ _ does.does;
    durable = does.durable;
  }

-- ---- what is safe

-- the record's file is safe and stands for the rows, so they are durable
pub rows_last : {F : Type 0} (file : FileGhosts F) (f : F) (rows : List Row) → IsSafeFile file f
    → Steady (stored_in file f).content (none_open rows) → DurableRows file f rows
rows_last file f rows safe steady = by _ refl steady
  where
    by : (content : Option (List ℕ)) → (stored_in file f).content ≡ content → Steady content (none_open rows) → DurableRows file f rows
    by None _ stands _ _ = ([], [], inl refl, stands)
    by (Some bytes) is stands left may = (bytes, [], inr (cc ((safe.1 bytes is).1 left may, append-nil bytes)), stands)

-- the mboxrd file of a store
same_mbox : {D F : Type 0} (disk : DiskGhosts D) (file : FileGhosts F) (store : Store D F)
    → (mbox_of file store).content ≡ (stores_of disk file store).mbox.content
same_mbox _ _ (InMaildir _) = refl
same_mbox _ _ (InMbox _) = refl

-- nothing came yet
none_appended : {D F : Type 0} (disk : DiskGhosts D) (file : FileGhosts F) (old new : Store D F)
    → ((was : List ℕ) → (mbox_of file old).content ≡ Some was → LeavesAll (may_leave_in file new) was)
    → (target : Target) → DurableTexts file target [] (stores_of disk file old) new
none_appended _ _ _ _ _ (AsFiles _) = tt
none_appended disk file old new whole AsEntries = λ was is. rw (append-nil was) (whole was (same_mbox disk file old ∙ is))

-- a safe mboxrd file
only_in : {D F : Type 0} (file : FileGhosts F) (store : Store D F) → IsSafeStore file store → (bytes : List ℕ)
    → (mbox_of file store).content ≡ Some bytes → (left : Option (List ℕ)) → may_leave_in file store left → left ≡ Some bytes
only_in _ (InMaildir _) _ bytes is _ _ = absurd (none-some bytes is)
only_in _ (InMbox _) safe bytes is left may = (safe.1 bytes is).1 left may

pub whole_in : {D F : Type 0} (file : FileGhosts F) (store : Store D F) → IsSafeStore file store
    → (bytes : List ℕ) → (mbox_of file store).content ≡ Some bytes → LeavesAll (may_leave_in file store) bytes
whole_in file store safe bytes is = λ left may. ([], rw append-nil (only_in file store safe bytes is left may))

-- what came into the store is safe
pub texts_ok : {D F : Type 0} (disk : DiskGhosts D) (file : FileGhosts F) (target : Target) (dones : List Done) (old new : Store D F)
    → Brings target dones (stores_of disk file old) (stores_of disk file new) → IsSafeStore file new
    → DurableTexts file target dones (stores_of disk file old) new
texts_ok disk file (AsFiles account) dones old new brings safe = tt
texts_ok disk file AsEntries dones old new brings safe = λ was is.
    whole_in file new safe (was ++ flat_map entry_of (done_texts dones)) (same_mbox disk file new ∙ rw (brings.content, is))

-- ---- if nothing is done

pub keeps_same : {D F H Z : Type 0} (file : FileGhosts F) (work : Work D F H Z) → KeepsWork file work work
keeps_same _ _ = (λ _ _ is. is, λ last. last)

-- no call was made
pub untouched : {F : Type 0} (file : FileGhosts F) (f : F) → IsRecordUntouched file f f
untouched _ f = record { no_more = λ _ may. may; same = refl }

-- the state of a session at this place
abbrev pub scene_at : {D F H Z : Type 0} → DiskGhosts D → FileGhosts F → Place → Work D F H Z → Scene
scene_at disk file place work = scene place (stores_of disk file work.store) (stored_in file work.ledger.file)
    work.ledger.seen.rows work.ledger.lines.items

-- nothing was stored or marked
pub none_left_of : {F : Type 0} (file : FileGhosts F) (mbox f : F) (next : Task) (place : Place) (rows : List Row)
    (lines : List ReportLine) (cut : Cut) (new : Scene)
    → IsSafeFile file f → Steady (stored_in file f).content (none_open rows) → IsSafeFile file mbox
    → LeavesBoth file (stored_in file mbox).content mbox f
    (IsCutLeft next (scene place (in_mbox (stored_in file mbox)) (stored_in file f) rows lines) cut new)
none_left_of file mbox f next place rows lines cut new safe steady whole trust bytes has left may now is seen there =
    inl (same_grown file f (none_open rows) (none_open rows) safe steady now is seen there, (whole.1 bytes has).1 left may)

pub cut_leaves_no_more : {D F : Type 0} (disk : DiskGhosts D) (file : FileGhosts F) (target : Target) (task : Task) (a : Place)
    (rows : List Row) (lines : List ReportLine) (cut : Cut) (new : Scene) (was store : Store D F) (f : F)
    → IsSafeStore file was → LeavesNoMore (may_leave_in file was) (may_leave_in file store) → IsSafeFile file f
    → Steady (stored_in file f).content (none_open rows)
    → DurableCut file target task (scene a (stores_of disk file was) (stored_in file f) rows lines) cut new store f
cut_leaves_no_more disk file (AsFiles account) task a rows lines cut new was store f whole no_more safe steady =
    inl (same_left file f safe steady)
cut_leaves_no_more disk file AsEntries task a rows lines cut new was (InMaildir device) f whole no_more safe steady = tt
cut_leaves_no_more disk file AsEntries task a rows lines cut new was (InMbox device) f whole no_more safe steady =
    λ trust bytes is left may now has seen there. inl (
      same_grown file f (none_open rows) (none_open rows) safe steady now has seen there,
      only_in file was whole bytes (same_mbox disk file was ∙ is) left (no_more left may),
    )

-- what was safe and written down before still is
pub none_durable : {D F H Z : Type 0} (disk : DiskGhosts D) (file : FileGhosts F) (target : Target) (place : Place)
    (old new : Work D F H Z) (next : List (List ℕ))
    → IsSafeWork file old → KeepsWork file old new → Steady (stored_in file old.ledger.file).content (none_open old.ledger.seen.rows)
    → LeavesFile file new.ledger.file (AreLeft old.ledger.seen.rows (marked_all old.ledger.seen.rows next))
    → DurableDones file target [] next (scene_at disk file place old) new.store new.ledger.file
none_durable disk file target place old new next safe keeps steady left = record {
  texts = none_appended disk file old.store new.store (λ was is. keeps.0 was is (whole_in file old.store safe.1 was is)) target;
  rows = keeps.1 (rows_last file old.ledger.file old.ledger.seen.rows safe.0 steady);
  left = left;
}

-- ---- a whole session

pub dealt : {D F : Type 0} (files : FileGhosts F) (was : Store D F) (from : F) (settings : Settings) (target : Target)
    (now : ℕ) (old : Place) (before : Keeping)
    (result : Result (Unit {0}) Cut) (new : Place) (after : Keeping) (notes : Noted) (items : List Item) (mid : Place)
    (start : List ReportLine) (store : Store D F) (f : F)
    → start ≡ [] → Enters_with settings old (Ok items) mid → notes.total ≡ length items
    → (is : Carries settings target items now mid before.store before.file start result new after.store after.file
    notes.lines notes.skipped) × DurableCarries files was from _ _ _ _ _ _ _ _ _ _ _ _ _ _ is store f
    → (is : Proceeds settings target now old before result new after notes) × DurableProceeds files was from _ _ _ _ _ _ _ _ _ is store f
dealt files was from settings target now old before result new after notes items mid _ store f none enters total carries =
    let from_nothing = rw none at carries in
    by _ (record { items = items; mid = mid; enters = enters; total = total; carries = from_nothing.0 }) from_nothing.1
  where
    by : (r : Result (Unit {0}) Cut) (is : Dealt settings target now old before r new after notes)
        → DurableCarries files was from _ _ _ _ _ _ _ _ _ _ _ _ _ _ is.carries store f
        → (is : Proceeds settings target now old before r new after notes) × DurableProceeds files was from _ _ _ _ _ _ _ _ _ is store f
    by (Ok _) is durable = (is, durable)
    by (Err _) is durable = (inr (inr is), durable)

-- a session that was brought to its end, or cut and then left
pub left_session : {D F : Type 0} {files : FileGhosts F} {from : F} {settings : Settings} {target : Target} {now : ℕ}
    {link link' : Link} {before after : Keeping} {report : Report} {store : Store D F} {f : F}
    (was : Store D F) (id : Target) (reader : List ℕ) (result : Result (Unit {0}) Cut) (mid : Place) (notes : Noted)
    → id ≡ target → reader ≡ [] → (is : Proceeds settings id now (at link reader) before result mid after notes)
    × DurableProceeds files was from _ _ _ _ _ _ _ _ _ is store f
    → LeavesLink result mid link' → Reports (outcome_of result) notes.total notes.skipped notes.lines report
    → (session : SessionIn settings target now link before report link' after) × DurableSession files was from session store f
left_session _ _ _ result mid notes same none proceeds leaves reports =
    let here = rw (same, none) at proceeds in
    (record { result = result; mid = mid; notes = notes; proceeds = here.0; leaves = leaves; reports = reports }, here.1)

-- ---- a session of an account with a Maildir, and of one with an mboxrd file

pub files_session : {D F : Type 0} (disk : DiskGhosts D) (file : FileGhosts F) (store store' : Store D F)
    (digits : List ℕ) (Did : Target → Stores → Stores → Type 0) (A B C : Type 0) → kind_of store' ≡ kind_of store
    → (is_sound disk file store' → A × is_sound disk file store × B × C
    × Did (target_of store digits) (stores_of disk file store) (stores_of disk file store'))
    → IsSoundMaildir disk store' → A × IsSoundMaildir disk store × B × C
    × Did (AsFiles digits) (in_maildir (maildir_of disk store)) (in_maildir (maildir_of disk store'))
files_session disk file (InMaildir device) (InMaildir device') digits Did A B C kind met sound = met sound
files_session disk file (InMbox device) (InMaildir device') digits Did A B C kind met sound = absurd cc
files_session disk file store (InMbox device') digits Did A B C kind met never = absurd never

-- no file is taken from an mboxrd file
nothing_left : (left : Maildir) → WereTaken no_maildir left → left ≡ no_maildir
nothing_left left taken =
    let none = is_none taken.gone left.files taken.files in
    taken.is ∙ rw (none.0, none.1, taken.odd refl refl, taken.told refl) refl
  where
    is_none : (gone files : List File) → IsWithout [] gone files → (gone ≡ []) × (files ≡ [])
    is_none [] [] _ = (refl, refl)
    is_none [] (g ∷ _) never = absurd never
    is_none (f ∷ _) _ ([], _, never, _) = absurd never
    is_none (f ∷ _) _ (g ∷ _, _, never, _) = absurd never

pub entries_session : {D F : Type 0} (disk : DiskGhosts D) (file : FileGhosts F) (store store' : Store D F)
    (digits : List ℕ) (Did : Target → Stores → Stores → Type 0) (A B C : Type 0) → kind_of store' ≡ kind_of store
    → (is_sound disk file store' → A × is_sound disk file store × B × C × AfterTakingIn (stores_of disk file store)
    (λ (left : Stores). Did (target_of store digits) left (stores_of disk file store')))
    → IsSoundMbox file store' → A × IsSoundMbox file store × B × C
    × Did AsEntries (in_mbox (mbox_of file store)) (in_mbox (mbox_of file store'))
entries_session disk file (InMbox device) (InMbox device') digits Did A B C kind met sound =
    let (first, safe, second, third, (left, taken, did)) = met sound in
    let none = subst (λ (maildir : Maildir). Did AsEntries (with_maildir (in_mbox (stored_in file device)) maildir)
    (in_mbox (stored_in file device'))) (nothing_left left taken) did in
    (first, safe, second, third, none)
entries_session disk file (InMaildir device) (InMbox device') digits Did A B C kind met sound = absurd cc
entries_session disk file store (InMaildir device') digits Did A B C kind met never = absurd never

-- ---- what follows once a record is ready, and what of it is durable

all_alike : {A P : Type 0} → P → (xs : List A) → AllByRecursion (λ (x : A). P) xs
all_alike p [] = tt
all_alike p (x ∷ xs) = (p, all_alike p xs)

-- steps that fetch nothing mark nothing
pub quiet_ids : (steps : List Step) (items : List Item) (held : List Bool) → AllByRecursion IsQuiet steps
    → ids_ahead (tasks_planned steps items held) ≡ []
quiet_ids (s ∷ ss) (i ∷ is) (h ∷ hs) quiet =
    let (first, later) = quiet in
    rw (ahead s i h (tasks_planned ss is hs), first.0) (quiet_ids ss is hs later)
quiet_ids _ _ _ _ = refl

-- if they mark something, each name is durable
pub named_ahead : {P : Type 0} (steps : List Step) (items : List Item) (held : List Bool) → All IsQuiet steps ⊎ P
    → AllByRecursion (λ (uid : List ℕ). P) (ids_ahead (tasks_planned steps items held))
named_ahead steps items held (inl quiet) = rw (quiet_ids steps items held (recursion_from_All IsQuiet steps quiet)) tt
named_ahead steps items held (inr p) = all_alike p _

-- the planned tasks and QUIT were done once the record was ready, or as far as went well
pub carried : {D F : Type 0} (disk : DiskGhosts D) (files : FileGhosts F) {safe : Type 0} {settings : Settings}
    {target : Target} {items : List Item} {now : ℕ} {place : Place} {store : Stores} {file : Stored}
    {lines : List ReportLine} {ready : Ready} {after : List Row}
    (was before : Store D F) {end : Store D F} (from mid_file : F) {f : F} {file' : Stored}
    (mid_lines : List ReportLine) (steps : List Step) (held : List Bool) {skipped : Skips} {r : Result (Unit {0}) Cut} {new : Scene}
    → mid_lines ≡ lines → (is : IsReady settings target items now store file ready after (stores_of disk files before)
    file') → steps ≡ ready.steps.items → held ≡ ready.held.items → skipped ≡ skips_of ready.steps.items
    → (AreTrusted files was from → UnlessQuiet files was from after file file' is.durable safe before mid_file)
    → (ids_ahead (tasks_planned steps items held ++ says quit ∷ []) ≡ [] → (f ≡ mid_file) × LeavesStore files before end)
    → DoesDurably files safe target (tasks_planned steps items held ++ says quit ∷ [])
    (scene place (stores_of disk files before) file' after mid_lines) r new end f
    → (is : Carries settings target items now place store file lines r new.place new.store new.file new.lines skipped)
    × DurableCarries files was from _ _ _ _ _ _ _ _ _ _ _ _ _ _ is end f
carried {D} {F} disk files {safe} {settings} {target} {items} {now} {place} {store} {file} {lines} {ready} {after} was
    before {end} from mid_file {f} {file'} mid_lines steps held {skipped} {r} {new} lines_are is steps_are held_are
    skipped_is firm same_file does =
    let mid : Scene = scene place (stores_of disk files before) file' after mid_lines in
    let good = rw (steps_are, held_are, is.held, is.steps) at does in
    of_result r (
      record {
        mid = mid;
        prepared = record {
          was = is.was;
          stood = is.stood;
          rows = is.rows;
          durable = quiet_or is.durable;
          saved =
              is.saved;
          file_count = is.file_count;
          place_is = refl;
          settles = is.settles;
          lines_are = lines_are;
        };
        does = good.does;
        skips = skipped_is ∙ ap skips_of is.steps;
      },
      λ trust. by (Durably files target (tasks_ahead settings target items now store after) mid r new good.does end f)
          good.durable is.durable (firm trust),
    )
  where
    quiet_or : (All IsQuiet ready.steps.items × IsFileKept after file file') ⊎ AreDurable target is.was.rows items store
        → (All IsQuiet (planned settings (odd_in target store) after items now) × IsFileKept after file file')
        ⊎ AreDurable target is.was.rows items store
    quiet_or (inl (quiet, kept)) = inl (subst (λ (ss : List Step). All IsQuiet ss) is.steps quiet, kept)
    quiet_or (inr durable) = inr durable

    of_result : (r : Result (Unit {0}) Cut) → (c : Carried settings target items now place store file lines r new skipped)
        × DurableCarried files was from c end f
        → (is : Carries settings target items now place store file lines r new.place new.store new.file new.lines
        skipped) × DurableCarries files was from _ _ _ _ _ _ _ _ _ _ _ _ _ _ is end f
    of_result (Ok done) (c, durable) = ((new.rows, c), durable)
    of_result (Err cut) (c, durable) = ((new.rows, inr c), durable)

    by : (P : Type 0) → (safe → P) → (durable : (All IsQuiet ready.steps.items × IsFileKept after file file')
        ⊎ AreDurable target is.was.rows items store) → UnlessQuiet files was from after file file' durable safe before mid_file
        → UnlessQuiet files was from after file file' (quiet_or durable) P end f
    by P good (inl (quiet, kept)) (still, mbox) =
        let same = same_file (flat_map-append ids_in (tasks_planned steps items held) (says quit ∷ []) ∙ append-nil _ ∙ quiet_ids steps
        items held (subst (λ (ss : List Step). AllByRecursion IsQuiet ss) (sym steps_are)
        (recursion_from_All IsQuiet ready.steps.items quiet))) in (
          subst (λ (g : F). DurableKept files from after file file' kept g) (sym same.0) still,
          λ left may. mbox left (same.1 left may),
        )
    by P good (inr durable) s = good s

-- ---- what a preview says

pub previews_are : (settings : Settings) (is_odd : List ℕ → Bool) (rows rows' : List Row) (items : List Item)
    (held : List Bool) (now : ℕ) (steps : List Step)
    → rows' ≡ merged rows items held now → steps ≡ planned settings is_odd rows' items now
    → message_previews settings rows' now steps items held ≡ previews_of settings is_odd (merged rows items held now) items held now
previews_are settings is_odd rows rows' items held now steps rows_are steps_are =
    ap (λ (ss : List Step). message_previews settings rows' now ss items held) steps_are
    ∙ ap (λ (r : List Row). previews_of settings is_odd r items held now) rows_are

-- ---- an mboxrd file that was only looked at

pub judged_good : (intent : Option Intent) (old : Stored) (items : List Item) (found : Found) (new : Stored)
    → JudgesMbox intent items old (Ok found.stored) new → found.held.items ≡ none_held items → found.odd.items ≡ none_held items
    → LooksAtMbox intent old items (Ok found) new
judged_good intent old items _ _ (is, same) held odd = record {
  left = holding old (closed_file intent items is.0);
  asks = (is.0, is.1, is.2, refl, is.3, held, odd);
  same = cc;
  count = cc;
}

pub judged_full : (intent : Option Intent) (old : Stored) (items : List Item) (whole : Bool) (new : Stored)
    → JudgesMbox intent items old (Ok whole) new → LooksAtMbox intent old items (Err NoMemory) new
judged_full _ old _ _ _ (_, same) = record {
  left = old;
  asks = (refl, inl refl);
  same = cc;
  count = cc;
}

pub judged_bad : (intent : Option Intent) (old : Stored) (items : List Item) (fault : Fault) (new : Stored)
    → JudgesMbox intent items old (Err fault) new → LooksAtMbox intent old items (Err fault) new
judged_bad _ _ _ (StoreRefused why.Missing) new is = record { left = new; asks = is; same = cc; count = refl }
judged_bad _ _ _ (StoreRefused why.Refused) new is = record {
  left = new;
  asks = (cc, inl (cc));
  same = cc;
  count = refl;
}
judged_bad intent old items (StoreRefused why.NotMbox) _ (is, same) = record {
  left = holding old (closed_file intent items is.0);
  asks = (is.0, is.1, is.2, refl);
  same = cc;
  count = cc;
}
judged_bad _ old _ NoMemory _ is = record {
  left = old;
  asks = (refl, inl refl);
  same = cc;
  count = cc;
}
judged_bad _ _ _ _ _ never = absurd never

-- ---- nothing changes

holds_the_same : (target : Target) (store : Stores) → HoldsTheSame target store store
holds_the_same (AsFiles _) _ = refl
holds_the_same AsEntries _ = refl

refused_same : (fault : Fault) (old new : Maildir) → FindsRefused old fault new → counted_as old.failures new ≡ old
refused_same (StoreRefused why.Missing) old new is = ap (counted_as old.failures) is.1
refused_same (StoreRefused why.Refused) old new is = ap (counted_as old.failures) is
refused_same NoMemory old new is = ap (counted_as old.failures) is
refused_same _ old new never = absurd never

-- what was found, as a session finds it that settles the store
looked_found : (target : Target) (store store' : Stores) (items : List Item) (was : RecordState) (found : Found)
    → LooksIn target was.intent store items (Ok found) store'
    → (closed_rows found.stored was.rows was.intent ≡ closed_rows_in target store was items)
    × (found.held.items ≡ held_flags target store items)
    × ((left : Stores) × SettlesStore target was items store left) × HoldsTheSame target store store'
    × (found.odd.items ≡ map (λ (item : Item). odd_in target store item.uid) items)
looked_found (AsFiles account) store store' items was found is = (
  rw is.1 (not_whole was.rows was.intent),
  is.0,
  (store, refl),
  ap (λ (s : Stores). counted_as store.maildir.failures s.maildir) is.2,
  is.3,
)
looked_found AsEntries store store' items was found looks =
    let asks = looks.asks in
    (rw (asks.2, asks.1), asks.5, (record store { mbox = looks.left }, (asks.0, asks.1, asks.3, asks.4)), looks.same, asks.6)

pub work_preview : (settings : Settings) (target : Target) (items : List Item) (now : ℕ) (store : Stores)
    (file read : Stored) (loaded : Loaded) (store' : Stores) (found : Found) (told : List MessagePreview)
    → FileReadAs file.content loaded → read ≡ file → LooksIn target loaded.intent store items (Ok found) store'
    → ((is_odd : List ℕ → Bool) → found.odd.items ≡ map (λ (item : Item). is_odd item.uid) items
    → told ≡ previews_of settings is_odd (merged (closed_rows found.stored loaded.rows loaded.intent) items found.held.items
    now) items found.held.items now)
    → PreviewsMerged settings target items now (keeping store file) told × ChangesNothing target (keeping store file) (keeping store' read)
work_preview settings target items now store file _ loaded store' found _ stood same looks is =
    let (rows, held, (left, settles), holds, odd) = looked_found target store store' items (record_state_in loaded) found looks in (
      record {
        was = record_state_in loaded;
        stood = read_keeps _ _ stood;
        left = left;
        settles = settles;
        told_is = let by = is (odd_in target store) odd in cc;
      },
      (holds, cc),
    )

-- the record couldn't be read
pub record_unread : (settings : Settings) (target : Target) (items : List Item) (now : ℕ) (store : Stores)
    (file read : Stored) (loaded : Loaded) (fault : Fault)
    → ReadsRecord file loaded (Err fault) read → WouldBeUnready target items fault store file store read
    × ChangesNothing target (keeping store file) (keeping store read)
record_unread settings target items now store file read loaded fault reads =
    let is = unread target items store file read loaded fault reads in
    (record { left = store; cause = is.0; maildir = refl; count = refl }, (holds_the_same target store, is.1))

-- the store refused to tell
pub not_looked : (settings : Settings) (target : Target) (items : List Item) (now : ℕ) (store : Stores)
    (file read : Stored) (loaded : Loaded) (store' : Stores) (fault : Fault)
    → FileReadAs file.content loaded → read ≡ file → LooksIn target loaded.intent store items (Err fault) store'
    → WouldBeUnready target items fault store file store' read × ChangesNothing target (keeping store file) (keeping store' read)
not_looked settings (AsFiles account) items now store file read loaded store' fault stood same looks = (
  record {
    left = store';
    cause = finding_refused false (AsFiles account) items store store' file read loaded fault stood looks;
    maildir = refl;
    count = refl;
  },
  (refused_same fault store.maildir store'.maildir looks, ap (λ (s : Stored). s.content) same),
)
not_looked settings AsEntries items now store file read loaded store' fault stood same looks =
    let left : Stores = record store' { mbox = looks.left } in (
      record {
        left = left;
        cause = finding_refused false AsEntries items store left file read loaded fault stood looks.asks;
        maildir = refl;
        count = looks.count;
      },
      (looks.same, ap (λ (s : Stored). s.content) same),
    )

-- memory ran out for what is told
pub memory_ran_out : (settings : Settings) (target : Target) (items : List Item) (now : ℕ) (store : Stores)
    (file read : Stored) (intent : Option Intent) (store' : Stores) (found : Found)
    → read ≡ file → LooksIn target intent store items (Ok found) store'
    → WouldBeUnready target items NoMemory store file store' read × ChangesNothing target (keeping store file) (keeping store' read)
memory_ran_out settings (AsFiles account) items now store file read intent store' found same looks = (
  record { left = store'; cause = ap (λ (s : Stores). s.maildir) looks.2; maildir = refl; count = refl },
  (ap (λ (s : Stores). counted_as store.maildir.failures s.maildir) looks.2, ap (λ (s : Stored). s.content) same),
)
memory_ran_out settings AsEntries items now store file read intent store' found same looks = (
  record {
    left = record store' { mbox = store.mbox };
    cause = inl refl;
    maildir = refl;
    count =
        sym (ap (λ (s : Stored). s.failures) looks.asks.3) ∙ looks.count;
  },
  (looks.same, ap (λ (s : Stored). s.content) same),
)

-- ---- the session

module _ (settings : Settings) (target : Target) (now : ℕ) (old : Place) (before : Keeping) where
  pub not_ended : (items : List Item) (mid new : Place) (after : Keeping) (told : List MessagePreview) (n : ℕ)
      (fault : ClientFault) → Enters_with settings old (Ok items) mid
      → PreviewsMerged settings target items now before told × ChangesNothing target before after → n ≡ length items
      → Talks (quit ∷ []) mid (Err fault) new
      → PreviewsSession settings target now old before (Err (cut_of (fault_of fault) None)) new after
      (record { total = n; message_previews = told })
  not_ended items mid _ _ _ n fault enters previews count quits = (
    inr (inr (fault, refl, record { items = items; mid = mid; enters = enters; total = count; previews = previews.0; quits = quits })),
    previews.1,
  )

pub left_preview : {settings : Settings} {target : Target} {now : ℕ} {link link' : Link} {before after : Keeping}
    {preview : Preview} (id : Target) (reader : List ℕ) (result : Result (Unit {0}) Cut) (mid : Place) → id ≡ target → reader ≡ []
    → PreviewsSession settings id now (at link reader) before result mid after (preview_told preview)
    → LeavesLink result mid link' → preview.outcome ≡ outcome_of result → Pretends settings target now link before preview link' after
left_preview _ _ result mid same none previews leaves is =
    let there = rw (same, none) at previews in
    record { result = result; mid = mid; ends = there.0; leaves = leaves; outcome = is; untouched = there.1 }
