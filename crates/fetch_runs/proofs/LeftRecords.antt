-- Each id that a record's file delivers is legal.
-- What a session leaves of a record's file, and what a loss of power may leave of that, shows as delivered only what it
-- showed or could show before, and messages of which a file is there whose name is durable.
use Rattle.std.{
  proofs.Common.{◌≡◌, inl, inr, ℕ, suc, List, [], ◌∷◌, ◌++◌, true, Option, arith, Bool, zero, ◌+◌, None, Some, ◌⊎◌, false, length, subst},
  proofs.Common.{bytes_eq, sym, ⊎_elim, ap, ◌∙◌, Contains, length-append, Result, Ok, Err, refl, All, ◌-◌, ◌%◌, ◌==◌, take, ◌&&◌},
  proofs.lemmas.{Bool.{cond_both, both_ways, cases_Bool, and_parts, or_cases, Decides.nat_tests}, Slice.Eq.bytes_eq-Decides},
  proofs.lemmas.List.{Elements.{recursion_from_All, Contains-push}, Concat.flat_map-append, Folds.list_any_at, append-nil},
  proofs.lemmas.List.append_cancel_left,
  specs.List.{AllByRecursion, list_all, list_any},
}
use Rattle.fetch_record.specs.{
  Record.{Row, RecordState, is_delivered, Intent, has_row, marked, marked_all, merged, none_open},
  RecordFile.{Version, Two, Line, RowLine, IsRecordLine, GroupLine, file_of},
  RecordMeaning.{Ends, Fails, Judged, InBase, InGroup, Means, Progress, Rows, Stands, after_intent, after_line, counted, judged, may_take},
  RecordMeaning.{with_taken, BetweenGroups, Fault, FileStandsFor},
  RecordTorn.{IsPartOf, ends_at_zero},
  declared.seen.SeenFault.TheVariants.BadRow,
}
use Rattle.session_parts.{
  specs.{Record.{Keeps, KeepsRows, Steady, record_state}, Laws.LeavesDurable, Store.RefusesText, Report.Reports},
  specs.Durable.{AreLeft, AreTrusted, DurableCarried, DurableCarries, IsRecordUntouched, Durably, LeavesFile, IsGrownAtMost, LeavesStore},
  specs.Durable.{LeavesMerged, DurableProceeds, DurableSession, UnlessQuiet, DurableUnready, IsSafeFile},
  specs.declared.{work.Store.{Store, TheVariants.Maildir as InMaildir}, fault.Cut.Cut},
  specs.declared.report.{Outcome.{TheVariants.Ended}, Report.Report, Skips.Skips},
  specs.{CarryingOut.{Carried, Carries, tasks_ahead}, Readiness.{IsMerged, IsMergedAtMost, IsAnew, IsFileKept, Unready}},
  specs.{Scene.{Does, FileNotSaved, NoFile, Scene, Stops, Went, scene}, Target.{Target, AsFiles, in_maildir}},
  specs.Session.{Dealt, Keeping, LeavesLink, Proceeds, Session, SessionIn, account_files, keeps_files, outcome_of},
  specs.Task.{Done, Task, file_from, files_in, files_of, ids_ahead, ids_in, marked_ids, stores, tasks_of},
  proofs.{TakenLemmas.unready_same, SessionLemmas.quiet_ids},
}
use Rattle.mail_terms.specs.{UniqueId.is_legal_id, Listing.{Item, is_flagged}}
use Rattle.mail_store.specs.{
  Devices.stored_in,
  Durable.MayLeave,
  FlatFile.Stored,
  FileName.{IsAccountText, is_held, is_odd, names_id, sized_file, stem, stem_of},
  Held.{HasDurable, flags_of},
  Maildir.{AllNamed, File, IsNamed, Maildir},
  Settling.{MayBeLeft, block_size, is_lost},
  declared.file.flat_file.FlatFile.Ghosts as FileGhosts,
}
use Rattle.fetch_rules.specs.Plan.{IsQuiet, planned}
use Rattle.pop3_wire.specs.{Link.Link, Place.{Place, at}}
use Rattle.rc_file.specs.declared.settings.Settings.{Settings}
use Rattle.fetch_runs.{
  specs.{Accounts.{has_named, AccountMail}, Losses.TrustsRecord, Steps.holds, Below.Below},
  proofs.{State.{CourseLeads, by_course}, Turns.{SessionCourse, Idle, Deals, course_of}},
  proofs.Lists.{bytes_same, all_append, both_none, same_held, same_kept_rows},
}
use mathlib.Core.Logic.{⊎_map}

abbrev AreLegalRows : List Row → Type 0
AreLegalRows rows = AllByRecursion (λ (row : Row). is_legal_id row.uid ≡ true) rows

marked_legal : (rows : List Row) (uid : List ℕ) → AreLegalRows rows → AreLegalRows (marked rows uid)
marked_legal [] _ _ = tt
marked_legal (r ∷ rows) _ all = (all.0, marked_legal rows _ all.1)

taken_legal : (rows : List Row) (row : Row) → AreLegalRows rows → is_legal_id row.uid ≡ true → AreLegalRows (with_taken rows row)
taken_legal rows row all one = cond_both _ (marked _ row.uid) (rows ++ row ∷ []) AreLegalRows
    (λ _. marked_legal _ _ all) (λ _. all_append _ _ _ all (one, tt))

abbrev Legal : Judged → Type 0
Legal (Stands (InGroup before _ rows _)) = AreLegalRows before × AreLegalRows rows
Legal (Stands progress) = AreLegalRows (counted progress)
Legal (Fails _) = Unit {0}

intent_legal : (version : Version) (n : ℕ) (rows : List Row) (before : Option Intent) (intent : Intent) → AreLegalRows rows
    → Legal (after_intent version n rows before intent)
intent_legal Two n rows None intent all = cond_both (has_row rows intent.uid) _ _ Legal (λ _. all) (λ _. tt)
intent_legal _ n _ _ _ _ = tt

line_legal : (version : Version) (n : ℕ) (progress : Progress) (line : Line) → Legal (Stands progress)
    → IsRecordLine line → Legal (after_line version n progress line)
line_legal _ n (InBase rows) (RowLine row) all is = cond_both (has_row rows row.uid) _ _ Legal (λ _. tt)
    (λ _. all_append _ rows (row ∷ []) all (is.legal, tt))
line_legal version n (InGroup _ _ rows zero) (RowLine row) all is =
    cond_both (may_take version rows row) _ _ Legal (λ _. taken_legal rows row all.1 is.legal) (λ _. tt)
line_legal version n (InGroup _ _ rows (suc _)) (RowLine row) all is =
    cond_both (may_take version rows row) _ _ Legal (λ _. (all.0, taken_legal rows row all.1 is.legal)) (λ _. tt)
line_legal _ n (BetweenGroups _ _) (GroupLine _) all is = (all, all)
line_legal version n progress line all is = search intent_legal

lines_legal : (version : Version) (n : ℕ) (so_far : Judged) (lines : List Line) → Legal so_far
    → AllByRecursion IsRecordLine lines → Legal (judged version n so_far lines)
lines_legal _ n _ [] legal _ = legal
lines_legal _ n (Fails _) (_ ∷ _) _ _ = tt
lines_legal version n (Stands progress) (line ∷ lines) legal each =
    lines_legal version (n + 1) (after_line version n progress line) lines (line_legal version n progress line legal each.0) each.1

counted_legal : (progress : Progress) → Legal (Stands progress) → AreLegalRows (counted progress)
counted_legal (InGroup _ _ _ _) all = all.0
counted_legal _ all = all

ends_legal : (version : Version) (rows : List Row) (intent : Option Intent) (torn : Bool) (of : Version) (n : ℕ)
    (end : Judged) (rest : List ℕ) → Legal end → Ends of n end rest (Rows version rows intent torn) → AreLegalRows rows
ends_legal _ _ _ _ of n (Fails _) _ legal never = absurd cc
ends_legal version rows intent torn of n (Stands progress) rest legal (none, is) =
    let same : rows ≡ counted progress = grind (arith, is) in rw same (counted_legal progress legal)

means_legal : (bytes : List ℕ) (version : Version) (rows : List Row) (intent : Option Intent) (torn : Bool)
    → Means bytes (Rows version rows intent torn) → AreLegalRows rows
means_legal _ _ rows _ _ (inl (none, is)) = let same : rows ≡ [] = cc in rw same tt
means_legal _ _ rows intent torn (inr (inl (some, other, never))) = absurd cc
means_legal _ version rows intent torn (inr (inr by_lines)) =
    ends_legal version rows intent torn by_lines.version _ (judged by_lines.version 0 (Stands (InBase [])) by_lines.lines) by_lines.rest
    (lines_legal by_lines.version 0 (Stands (InBase [])) by_lines.lines tt
    (recursion_from_All IsRecordLine by_lines.lines by_lines.cut.each)) by_lines.ends

delivered_legal : (rows : List Row) (id : List ℕ) → AreLegalRows rows → is_delivered rows id ≡ true → is_legal_id id ≡ true
delivered_legal [] id all never = absurd cc
delivered_legal (row ∷ rows) id all delivered = grind (arith, delivered, all.0, bytes_same id row.uid, delivered_legal rows id all.1)

pub kept_legal : (content : Option (List ℕ)) (rows : List Row) → KeepsRows content rows → (id : List ℕ)
    → is_delivered rows id ≡ true → is_legal_id id ≡ true
kept_legal None _ (_, stands) _ delivered = absurd (let never = rw stands.0 at delivered in cc)
kept_legal (Some _) _ (_, (_, _, means)) id delivered = delivered_legal _ id (means_legal _ _ _ _ _ means) delivered

-- what a call leaves. No file came, or each name was durable before; and what the record shows as delivered, or may
-- show after a loss of power, it showed or could show before, or it has a file whose name is durable
pub record LeavesDurably {F : Type 0} (file : FileGhosts F) (account : List ℕ) (from f : F) (before after : AccountMail) : Type 0 where
  pub is : LeavesDurable account (account_files before.maildir (stored_in file from)) (account_files after.maildir (stored_in file f))
  pub open is use {came, last, files, durable, flushed, at_most_one}
  pub named : (came ++ last ≡ []) ⊎ AllNamed before.maildir.files
  pub shown : (id : List ℕ) → is_delivered after.rows id ≡ true → (is_delivered before.rows id ≡ true)
      ⊎ (has_named account after.maildir id ≡ true)
  pub left : TrustsRecord file from f → (bytes : Option (List ℕ)) (rows : List Row) (intent : Option Intent)
      → MayLeave (file.disk f) bytes → FileStandsFor bytes rows intent → (id : List ℕ)
      → is_delivered rows id ≡ true → (is_delivered before.rows id ≡ true)
      ⊎ ((has_named account after.maildir id ≡ true) ⊎ MayLeave (file.disk from) bytes)

-- ---- what is left of an append

left_is_part : (place : ℕ) (added left : List ℕ) → MayBeLeft place added left → IsPartOf added left
left_is_part _ _ [] is = tt
left_is_part _ [] (_ ∷ left) never = absurd never
left_is_part place (word ∷ words) (byte ∷ left) (is, more) =
    let some : block_size - place % block_size ≡ suc (511 - place % block_size) = omega arith in
    let zero_byte : is_lost place (byte ∷ left) ≡ true → byte ≡ 0 = λ lost. grind
    (arith, nat_tests, subst (λ k. list_all (λ b. b == 0) (take k (byte ∷ left)) ≡ true) some lost) in
    (⊎_map (λ same. same) zero_byte is, left_is_part (place + 1) words left more)

-- ---- the rows that are left

-- what is left of an append is read as the record before it, or as the one after it
pub grown_reads : Below → {was now : RecordState} {left : Option (List ℕ)} (then : RecordState)
    → IsGrownAtMost was now left → Keeps left then → (then ≡ was) ⊎ (then ≡ now)
grown_reads laws {was} {now} then is stands = elim is.file.begun [
  | inl none ↦ inl (unread none)
  | inr some ↦ elim is.grows [
    | inl none ↦ inl (unread none)
    | inr grows ↦ elim (cases_Bool (bytes_eq is.file.behind is.added)) [
      | inl same ↦ inr (same_held laws.one (Some (is.file.bytes ++ is.added)) then now
          (rw ((bytes_eq-Decides is.file.behind is.added).0 same) at there) (
            Two,
            false,
            laws.counts is.file.bytes is.added was.rows now.rows was.intent now.intent some is.file.stands grows,
          ))
      | inr apart ↦
          let ignored = laws.torn is.file.bytes is.added is.file.behind was.rows now.rows was.intent now.intent some is.file.stands grows
          (left_is_part (length is.file.bytes) is.added is.file.behind is.file.part)
          (λ same. both_ways _ apart ((bytes_eq-Decides is.file.behind is.added).1 same)) in
          elim (cases_Bool (ends_at_zero is.file.behind)) [
            | inl zeros ↦ inl (same_held laws.one (Some (is.file.bytes ++ is.file.behind)) then was there (Two, _, ignored.0 zeros))
            | inr line ↦ absurd (cc (laws.meaning (is.file.bytes ++ is.file.behind) (Fault (BadRow (ignored.1 line).0))
                (Rows there.0 then.rows then.intent there.1) (ignored.1 line).1 there.2))
          ]
    ]
  ]
]
  where
    there : Keeps (Some (is.file.bytes ++ is.file.behind)) then
    there = rw is.file.is at stands

    unread : is.file.behind ≡ [] → then ≡ was
    unread none = same_held laws.one (Some is.file.bytes) then was (rw (none, append-nil) at there) (Two, false, is.file.stands)

-- nothing was appended
pub same_reads : Below → {was : RecordState} {left : Option (List ℕ)} (then : RecordState) → IsGrownAtMost was was left → Keeps left then
    → then ≡ was
same_reads laws then is stands = ⊎_elim (λ e. e) (λ e. e) (grown_reads laws then is stands)

-- what is left of a merge is read as the record before it, or as the merged one
pub merge_reads : Below → {was now : RecordState} {left : Option (List ℕ)} (then : RecordState)
    → IsGrownAtMost was now left ⊎ IsGrownAtMost now now left → Keeps left then → (then ≡ was) ⊎ (then ≡ now)
merge_reads laws then (inl grown) stands = grown_reads laws then grown stands
merge_reads laws then (inr grown) stands = inr (same_reads laws then grown stands)

abbrev pub rows_in : {a b : RecordState} → a ≡ b → a.rows ≡ b.rows
rows_in same = ap (λ (r : RecordState). r.rows) same

pub left_stands : Below → {rows others : List Row} {left : Option (List ℕ)} (now : List Row) → AreLeft rows others left
    → KeepsRows left now → (now ≡ rows) ⊎ (now ≡ others)
left_stands laws now is (intent, stands) =
    ⊎_elim (λ same. inl (rows_in same)) (λ same. ⊎_map (λ e. rows_in same ∙ e) (λ e. rows_in same ∙ e) is.next_is)
    (grown_reads laws {now = record_state is.next is.after} (record_state now intent)
    (record { added = is.added; file = is.file; grows = inr is.grows }) stands)

-- ---- names of files

pub not_one_longer : {A : Type 0} (xs ys : List A) (x : A) → ys ≡ xs → ys ≡ xs ++ x ∷ [] → ⊥
not_one_longer xs ys x same more = absurd (omega (arith, ap length same, ap length more, length-append xs (x ∷ [])))

-- what is flagged is held
pub flag_held : (account : List ℕ) (maildir : Maildir) (items : List Item) (id : List ℕ)
    → is_flagged items (flags_of account maildir items) id ≡ true → is_held account maildir id ≡ true
flag_held _ _ [] _ never = absurd (both_ways false refl never)
flag_held account maildir (i ∷ items) id flagged = grind (arith, flagged, bytes_same i.uid id, flag_held account maildir items id)

-- a file of the id that is there and whose name is durable
has_file : (account : List ℕ) (maildir : Maildir) (id : List ℕ) (g : File) → Contains maildir.files g
    → names_id account id g.name ≡ true → IsNamed g → has_named account maildir id ≡ true
has_file account maildir id g (k, below, is) names named =
    list_any_at _ _ k g below (ap (λ h. names_id account id h.name && h.is_named) is ∙ grind (arith, names, named))

-- what is held has one if all names are durable
pub all_named : (account : List ℕ) (files : List File) (id : List ℕ) → AllNamed files
    → list_any (λ (h : File). names_id account id h.name) files ≡ true
    → list_any (λ (h : File). names_id account id h.name && h.is_named) files ≡ true
all_named _ [] _ named never = never
all_named account (g ∷ files) id (one, named) held = grind (arith, one, held, all_named account files id named)

-- ---- a session that had nothing to fetch or to delete

-- tasks that mark nothing store nothing
pub no_files : (account : List ℕ) (dones : List Done) → ids_ahead (tasks_of dones) ≡ [] → files_of account dones ≡ []
no_files _ [] none = refl
no_files account (d ∷ dones) none =
    let parts = both_none (ids_in d.task) (ids_ahead (tasks_of dones)) none in
    rw (by d.task parts.0) (no_files account dones parts.1)
  where
    by : (task : Task) → ids_in task ≡ [] → files_in account task d.replies ≡ []
    by (stores _ uid) never = absurd cc
    by other none = refl

-- no file came
quiet_came : {account : List ℕ} {settings : Settings} {items : List Item} {now : ℕ} {place : Place} {left : Maildir} {file : Stored}
    {result : Result (Unit {0}) Cut} {new : Scene} {skipped : Skips}
    (c : Carried settings (AsFiles account) items now place (in_maildir left) file [] result new skipped)
    → All IsQuiet (planned settings (is_odd account left) c.mid.rows items now) → new.store.maildir.files ≡ left.files
quiet_came {account} {settings} {items} {now} {left = left} {result = result} {new} c quiet = by result c.does
  where
    none : ids_ahead (tasks_ahead settings (AsFiles account) items now (in_maildir left) c.mid.rows) ≡ []
    none = simp (flat_map-append, append-nil) (quiet_ids _ _ _ (recursion_from_All _ _ quiet))

    none_came : {later : Scene} (dones : List Done) → Went (AsFiles account) dones c.mid later
        → ids_ahead (tasks_of dones) ≡ [] → later.store.maildir.files ≡ left.files
    none_came dones went none = went.stored.came ∙ ap (λ s. s.maildir.files ++ files_of account dones) c.prepared.settles
        ∙ rw no_files (append-nil left.files)

    by : (result : Result (Unit {0}) Cut)
        → Does (AsFiles account) (tasks_ahead settings (AsFiles account) items now (in_maildir left) c.mid.rows) c.mid
        result new → new.store.maildir.files ≡ left.files
    by (Ok _) all = none_came all.dones all.went (rw all.all at none)
    by (Err cut) fell = stopped fell.stops ∙ none_came fell.dones fell.went parts.0
      where
        parts : (ids_ahead (tasks_of fell.dones) ≡ []) × (ids_in fell.next ≡ [])
        parts =
            let both = both_none _ _ (rw (fell.split, flat_map-append) at none) in
            (both.0, (both_none _ _ both.1).0)

        stopped : Stops (AsFiles account) fell.next fell.mid cut new → new.store.maildir.files ≡ fell.mid.store.maildir.files
        stopped (inl broken) = ap (λ s. s.maildir.files) broken.store
        stopped (inr (inl n)) = absurd (cc (rw n.is at parts.1))
        stopped (inr (inr u)) = absurd (cc (rw u.is at parts.1))

-- ---- how a session goes, by what is durable of it

abbrev pub end_of : {settings : Settings} {target : Target} {now : ℕ} {link link' : Link} {before after : Keeping} {report : Report}
    → SessionIn settings target now link before report link' after → List Row → Scene
end_of {after = after} session rows = scene session.mid after.store after.file rows session.notes.lines

-- what was planned was begun
pub record IsBegun {D F : Type 0} (files : FileGhosts F) {settings : Settings} {target : Target} {now : ℕ} {link link' : Link}
    {before after : Keeping} {report : Report} (session : SessionIn settings target now link before report link' after)
    (store : Store D F) (f : F) (result : Result (Unit {0}) Cut) : Type 0 where
  pub leaves : LeavesLink result session.mid link'
  pub reports : Reports (outcome_of result) session.notes.total session.notes.skipped session.notes.lines report
  pub dealt : Dealt settings target now (at link []) before result session.mid after session.notes
  pub rows : List Row
  pub c : Carried settings target dealt.items now dealt.mid before.store before.file [] result (end_of session rows) session.notes.skipped
  pub durably : Durably files target (tasks_ahead settings target dealt.items now before.store c.mid.rows) c.mid result
      (end_of session rows) c.does store f

module _ {D F : Type 0} (files : FileGhosts F) (was : Store D F) (from : F) {settings : Settings} {target : Target} {now : ℕ}
    {link link' : Link} {before after : Keeping} {report : Report}
    (session : SessionIn settings target now link before report link' after) (store : Store D F) (f : F) where
  -- nothing was written; the record wasn't ready; it was written anew, and nothing was to be done; or what was planned was begun
  pub data Way : Type 0 where
    Untouched : IsRecordUntouched files from f → LeavesStore files was store → Way
    NotReady : (items : List Item) (cut : Cut)
        (is : Unready target items now before.store before.file cut.fault after.store after.file)
        → DurableUnready files was from is.content store f → Way
    Anew : (rows : List Row) (kept : Stored) → IsAnew rows before.file kept → Steady kept.content (none_open rows)
        → stored_in files f ≡ kept → IsSafeFile files f → LeavesStore files was store → Way
    Begun : (result : Result (Unit {0}) Cut) → IsBegun files session store f result → Way

  unless : {Quiet Durable Safe : Type 0} (rows : List Row) {kept : Stored} (either : (Quiet × IsFileKept rows before.file kept) ⊎ Durable)
      → UnlessQuiet files was from rows before.file kept either Safe store f → Steady kept.content (none_open rows) → (Safe → Way) → Way
  unless _ (inl (_, inl _)) (un, still) _ _ = Untouched un still
  unless rows (inl (_, inr is)) ((same, safe), still) saved _ = Anew rows _ is saved same safe still
  unless _ (inr _) safe _ go = go safe

  pub way : DurableSession files was from session store f → AreTrusted files was from → Way
  way durable trusted = by session.result session.proceeds session.leaves session.reports durable
    where
      begun : (result : Result (Unit {0}) Cut) → LeavesLink result session.mid link'
          → Reports (outcome_of result) session.notes.total session.notes.skipped session.notes.lines report
          → (dealt : Dealt settings target now (at link []) before result session.mid after session.notes) {rows : List Row}
          (c : Carried settings target dealt.items now dealt.mid before.store before.file [] result (end_of session rows)
          session.notes.skipped) → DurableCarried files was from c store f → Way
      begun result leaves reports dealt c all = unless c.mid.rows c.prepared.durable (all trusted) c.prepared.saved
          (λ durably. Begun result (record {
            leaves = leaves;
            reports = reports;
            dealt = dealt;
            rows = _;
            c = c;
            durably = durably;
          }))

      by : (result : Result (Unit {0}) Cut)
          (proceeds : Proceeds settings target now (at link []) before result session.mid after session.notes)
          → LeavesLink result session.mid link'
          → Reports (outcome_of result) session.notes.total session.notes.skipped session.notes.lines report
          → DurableProceeds files was from _ _ _ _ _ _ _ _ _ proceeds store f → Way
      by (Ok _) dealt leaves reports all = begun _ leaves reports dealt dealt.carries.1 all
      by (Err _) (inl _) _ _ (un, still) = Untouched un still
      by (Err _) (inr (inl _)) _ _ (un, still) = Untouched un still
      by (Err cut) (inr (inr dealt)) leaves reports all = of dealt.carries all
        where
          of : (carries : Carries settings target dealt.items now dealt.mid before.store before.file [] (Err cut) session.mid
              after.store after.file session.notes.lines session.notes.skipped)
              → DurableCarries files was from settings target dealt.items now dealt.mid before.store before.file [] (Err cut)
              session.mid after.store after.file session.notes.lines session.notes.skipped carries store f → Way
          of (_, inl (_, is)) all = NotReady _ cut is.unready (all trusted)
          of (_, inr c) all = begun _ leaves reports dealt c all

  -- an uncut session wrote nothing to the record's file, or all of it is durable
  pub ended_way : DurableSession files was from session store f → AreTrusted files was from → report.outcome ≡ Ended
      → IsRecordUntouched files from f ⊎ IsSafeFile files f
  ended_way durable trusted ended = by session.result session.proceeds session.reports.outcome_is durable
    where
      either : {Quiet Durable Safe : Type 0} (rows : List Row) {kept : Stored}
          (which : (Quiet × IsFileKept rows before.file kept) ⊎ Durable)
          → UnlessQuiet files was from rows before.file kept which Safe store f → (Safe → IsSafeFile files f)
          → IsRecordUntouched files from f ⊎ IsSafeFile files f
      either _ (inl (_, inl _)) (un, _) _ = inl un
      either _ (inl (_, inr _)) ((_, safe), _) _ = inr safe
      either _ (inr _) safe is = inr (is safe)

      by : (result : Result (Unit {0}) Cut)
          (proceeds : Proceeds settings target now (at link []) before result session.mid after session.notes)
          → report.outcome ≡ outcome_of result
          → DurableProceeds files was from _ _ _ _ _ _ _ _ _ proceeds store f
          → IsRecordUntouched files from f ⊎ IsSafeFile files f
      by (Ok _) dealt _ all = either dealt.carries.1.mid.rows dealt.carries.1.prepared.durable (all trusted) (λ durably. durably.1)
      by (Err cut) _ is _ = absurd (let never = sym ended ∙ is in cc)

-- ---- a session

module _ (laws : Below) {D F : Type 0} (files : FileGhosts F) (device device' : D) {settings : Settings}
    {account : List ℕ} (text : IsAccountText account) {now : ℕ} {link link' : Link} {left maildir : Maildir} (from f : F)
    {report : Report} (session : Session settings account now link (account_files left (stored_in files from)) report link'
    (account_files maildir (stored_in files f)))
    (was rows : List Row) (stood : KeepsRows (stored_in files from).content was)
    (keeps : KeepsRows (stored_in files f).content rows) where
  abbrev old : Stored
  old = stored_in files from

  abbrev new : Stored
  new = stored_in files f

  pub durable : LeavesDurable account (account_files left old) (account_files maildir new)
  durable = laws.durable settings account now link (account_files left old) report link'
      (account_files maildir new) text session

  has_is : (id : List ℕ) → HasDurable account maildir id → has_named account maildir id ≡ true
  has_is id (g, there, names, is) = has_file _ maildir id g there names is.0

  pub shown : (id : List ℕ) → is_delivered rows id ≡ true → (is_delivered was id ≡ true) ⊎ (has_named account maildir id ≡ true)
  shown id d = ⊎_map (λ x. x) (has_is id) (durable.shown was rows id stood keeps d)

  abbrev Said : Option (List ℕ) → List ℕ → Type 0
  Said could id = (is_delivered was id ≡ true) ⊎ ((has_named account maildir id ≡ true) ⊎ MayLeave (files.disk from) could)

  abbrev pub Answered : Type 0
  Answered = (could : Option (List ℕ)) (then : List Row) → MayLeave (files.disk f) could → KeepsRows could then
      → (id : List ℕ) → is_delivered then id ≡ true → Said could id

  by_rows : (could : Option (List ℕ)) (id : List ℕ) → is_delivered rows id ≡ true → Said could id
  by_rows _ id d = ⊎_map (λ x. x) inl (shown id d)

  by_was : (could : Option (List ℕ)) (id : List ℕ) (had : List Row) → KeepsRows old.content had
      → is_delivered had id ≡ true → Said could id
  by_was _ _ had keeps_had d = inl (rw (same_kept_rows laws.one old.content had was keeps_had stood) at d)

  untouched : IsRecordUntouched files from f → Answered
  untouched un could then may k _ d = inr (inr (un.no_more could may))

  module _ (trust : TrustsRecord files from f) where
    shown_by : (had others : List Row) → LeavesFile files f (AreLeft had others)
        → ((id : List ℕ) → is_delivered had id ≡ true → is_delivered rows id ≡ true)
        → ((could : Option (List ℕ)) (id : List ℕ) → is_delivered others id ≡ true → Said could id) → Answered
    shown_by had others leaves within more could then may k id d = by _ refl
      where
        by : (content : Option (List ℕ)) → new.content ≡ content → Said could id
        by None none = absurd (cc (rw (rw (trust.1 none could may) at k).1.0 at d))
        by (Some bytes) some = elim (left_stands laws then (leaves bytes some could may) k) [
          | inl same ↦ by_rows _ id (within id (rw same at d))
          | inr same ↦ more could id (rw same at d)
        ]

    -- the record was written anew, and this alone may be left
    anew : (now_rows : List Row) (kept : Stored) → new ≡ kept → IsAnew now_rows old kept
        → IsSafeFile files f → Answered
    anew now_rows _ same is_anew safe could then may k id d =
        let whole = ap (λ s. s.content) (same ∙ is_anew.2) in
        let is = (safe.1 (file_of now_rows None) whole).1 could may ∙ sym whole in
        by_rows _ id (rw (same_kept_rows laws.one new.content then rows (rw is at k) keeps) at d)

    -- ---- it was cut while it prepared the record

    module _ (items : List Item) (same : maildir.files ≡ left.files) where
      -- the record was merged, or was about to be
      module _ (m : IsMerged (AsFiles account) items now (in_maildir left) old (in_maildir maildir) new) where
        abbrev here : List Row
        here = merged m.was.rows items (flags_of account left items) now

        of_was : (could : Option (List ℕ)) (id : List ℕ) → is_delivered m.was.rows id ≡ true → Said could id
        of_was _ id = by_was _ id _ (m.was.intent, m.stood)

        of_merged : (could : Option (List ℕ)) (id : List ℕ) → is_delivered here id ≡ true → Said could id
        of_merged could id delivered = elim m.durable [
          | inl same_merged ↦ of_was _ id (subst (λ some. is_delivered some id ≡ true) same_merged delivered)
          | inr durable ↦ ⊎_elim (of_was _ id) (λ flagged. inr (inl (rw same
              (all_named _ _ id durable.0 (flag_held account left items id flagged)))))
              (or_cases _ _ (sym (laws.merges m.was.rows items (flags_of account left items) now id) ∙ delivered))
        ]

        merged_left : (Before : Option (List ℕ) → Type 0) → ((could : Option (List ℕ)) (then : List Row) → Before could
            → KeepsRows could then → (id : List ℕ) → is_delivered then id ≡ true → Said could id)
            → LeavesMerged Before m.was here (MayLeave (files.disk f)) → Answered
        merged_left Before of_before leaves could then may k id d = elim (leaves could may) [
          | inl before ↦ of_before could then before k id d
          | inr are ↦
              let read : (then ≡ m.was.rows) ⊎ (then ≡ here) = ⊎_map rows_in rows_in (merge_reads laws (record_state then k.0) are k.1) in
              ⊎_elim (λ is. of_was _ id (rw is at d)) (λ is. of_merged _ id (rw is at d)) read
        ]

      unready : (content : IsMergedAtMost (AsFiles account) items now (in_maildir left) old
          (in_maildir maildir) new) → DurableUnready files (InMaildir device) from content (InMaildir device') f → Answered
      unready (inl _) (leaves, _) = λ could then may k _ d. inr (inr (leaves could may))
      unready (inr m) (inl (_, leaves, _)) = merged_left m (MayLeave (files.disk from)) (λ _ then before k _ d. inr (inr before)) leaves
      unready (inr m) (inr (leaves, _)) = merged_left m (λ left. left ≡ old.content)
          (λ could then is k id d. by_was could id then (subst (λ (c : Option (List ℕ)). KeepsRows c then) is k) d) leaves

    -- ---- its tasks were begun

    abbrev BegunWith : Result (Unit {0}) Cut → Type 0
    BegunWith result = IsBegun files session (InMaildir device') f result

    -- it did all its tasks
    answer_ok : BegunWith (Ok tt) → Answered
    answer_ok w = shown_by _ _ w.durably.0.left within (λ could id d. by_rows _ id (within id d))
      where
        open w use {c}

        within : (id : List ℕ) → is_delivered (marked_all c.mid.rows (marked_ids c.does.dones)) id ≡ true → is_delivered rows id ≡ true
        within _ d =
            rw (
              same_kept_rows laws.one new.content rows w.rows keeps
                  (None, laws.steady new.content (none_open w.rows) (c.does.went.saved c.prepared.saved)),
              c.does.went.rows,
            ) d

    -- it was cut
    module _ {cut : Cut} (w : BegunWith (Err cut)) where
      open w use {c, durably}

      abbrev end : Scene
      end = end_of session w.rows

      abbrev rows_then : List Row
      rows_then = marked_all c.mid.rows (marked_ids c.does.dones)

      abbrev Has : List Row → Type 0
      Has old = (id : List ℕ) → is_delivered old id ≡ true → is_delivered rows id ≡ true

      -- the record's file is as it was after the tasks that were done
      same_has : new ≡ c.does.mid.file → Has rows_then
      same_has same _ d =
          rw (
            same_kept_rows laws.one c.does.mid.file.content rows c.does.mid.rows
                (subst (λ (o : Option (List ℕ)). KeepsRows o rows) (ap (λ (s : Stored). s.content) same) keeps) (
                  None,
                  laws.steady c.does.mid.file.content (none_open c.does.mid.rows) (c.does.went.saved c.prepared.saved),
                ),
            c.does.went.rows,
          ) d

      unmarked : LeavesFile files f (AreLeft c.does.mid.rows c.does.mid.rows) → new ≡ c.does.mid.file → Answered
      unmarked leaves same = shown_by _ _ (rw c.does.went.rows at leaves) (same_has same)
          (λ could id d. by_rows _ id (same_has same id d))

      marked_one : (number : ℕ) (uid : List ℕ) → c.does.next ≡ stores number uid → (g : File)
          → maildir.files ≡ c.does.mid.store.maildir.files ++ g ∷ [] → names_id account uid g.name ≡ true
          → IsNamed g → Has rows_then → Answered
      marked_one number uid is g came names named within =
          shown_by rows_then (marked rows_then uid)
          (subst (λ (t : Task). LeavesFile files f (AreLeft rows_then (marked_all rows_then (ids_in t)))) is durably.0.left) within
          (λ could id d. ⊎_elim (λ had. by_rows could id (within id had))
          (λ both. inr (inl (has_file account maildir id g (rw came (Contains-push c.does.mid.store.maildir.files g))
          (rw (bytes_same uid id (and_parts (has_row rows_then id) (bytes_eq uid id) both).1) at names) named)))
          (or_cases _ _ (sym (laws.marks rows_then uid id) ∙ d)))

      -- the file that came is this one
      same_one : (g h : File) → maildir.files ≡ c.does.mid.store.maildir.files ++ h ∷ []
          → maildir.files ≡ c.does.mid.store.maildir.files ++ g ∷ [] → h ≡ g
      same_one g h came came' = cc (append_cancel_left c.does.mid.store.maildir.files (h ∷ []) (g ∷ []) (sym came ∙ came'))

      named_one : (uid written : List ℕ) → names_id account uid (sized_file (stem_of account uid) written).name ≡ true
      named_one uid written = (bytes_eq-Decides _ _).1 (sym (ap stem (laws.bases account uid (length written) text)
          ∙ laws.stems account uid (length written) text))

      -- nothing came
      nothing : maildir.files ≡ c.does.mid.store.maildir.files → new ≡ c.does.mid.file → Answered
      nothing same same_record = ⊎_elim (λ un. unmarked un same_record)
          (λ (g, came, is). absurd (not_one_longer _ maildir.files g same came)) durably.1

      refused : (n : NoFile account c.does.next c.does.mid end cut)
          → RefusesText c.does.mid.store.maildir (stem_of account n.uid) n.rest n.text cut.fault maildir → Answered
      refused n (inl missing) = nothing (ap (λ (m : Maildir). m.files) missing.2) n.file
      refused n (inr (is, inl same)) = nothing (ap (λ (m : Maildir). m.files) same) n.file
      refused n (inr (is, inr (_, (is_named, there)))) = elim durably.1 [
        | inl un ↦ unmarked un n.file
        | inr (g, came', durable) ↦
            marked_one _ _ n.is g came' (rw (← same_one g (record (sized_file (stem_of account n.uid) n.text) { is_named = is_named })
            (ap (λ (m : Maildir). m.files) there) came') (named_one _ _)) durable.0 (same_has n.file)
      ]

      unsaved : FileNotSaved account c.does.next c.does.mid end cut → Answered
      unsaved u = marked_one u.number u.uid u.is (file_from account u.uid u.reply) u.stored.came (named_one u.uid _) refl within
        where
          within : Has rows_then
          within id d = elim (laws.unsaved c.does.mid.file (none_open c.does.mid.rows)
              (none_open (marked c.does.mid.rows u.uid)) cut.fault new u.saves (c.does.went.saved c.prepared.saved)) [
                | inl same ↦ rw (same_kept_rows laws.one new.content rows c.does.mid.rows keeps (None, same), c.does.went.rows) d
                | inr more ↦ rw (
                  same_kept_rows laws.one new.content rows (marked c.does.mid.rows u.uid) keeps (None, more),
                  c.does.went.rows,
                  laws.marks rows_then u.uid id,
                  d,
                ) refl
              ]

      answer_cut : Answered
      answer_cut = elim c.does.stops [
        | inl broken ↦ nothing (ap (λ s. s.maildir.files) broken.store) broken.file
        | inr (inl n) ↦ refused n n.refuses
        | inr (inr u) ↦ unsaved u
      ]

    records_left : DurableSession files (InMaildir device) from session (InMaildir device') f → Answered
    records_left durably = elim (way files (InMaildir device) from session (InMaildir device') f durably (tt, trust.0)) [
      | Untouched un _ ↦ untouched un
      | NotReady items cut is leaves ↦ unready items (unready_same cut.fault left old maildir new is.cause) is.content leaves
      | Anew now_rows kept is _ same safe _ ↦ anew now_rows kept same is safe
      | Begun result w ↦ by result w
    ]
      where
        by : (result : Result (Unit {0}) Cut) → BegunWith result → Answered
        by (Ok _) w = answer_ok w
        by (Err _) w = answer_cut w

  -- no file came, or each name was durable
  none_or_named : (durable.came ++ durable.last ≡ []) ⊎ AllNamed left.files
  none_or_named = ⊎_map (λ alike. append_cancel_left left.files (durable.came ++ durable.last) [] (sym durable.files ∙ alike
      ∙ sym (append-nil left.files))) (λ named. named) (by (course_of session) (by_course session
      (λ _ _ store _. (store.maildir.files ≡ left.files) ⊎ AllNamed left.files)
      (λ _ _ cut end is. inl (unready_same cut.fault left old end.store.maildir end.file is.unready.cause))
      (λ _ _ _ _ _ c. ⊎_map (λ quiet. quiet_came c quiet.0) (λ found. found.0) c.prepared.durable)))
    where
      by : (session_course : SessionCourse) → CourseLeads (λ _. (maildir.files ≡ left.files) ⊎ AllNamed left.files) session.result
          (keeps_files (account_files left old)) (keeps_files (account_files maildir new)) session.notes.lines session_course
          → (maildir.files ≡ left.files) ⊎ AllNamed left.files
      by Idle is = inl (ap (λ (k : Keeping). k.store.maildir.files) is.1)
      by (Deals _) is = is

  -- what it leaves, over what its devices show
  pub leaves_durably : DurableSession files (InMaildir device) from session (InMaildir device') f
      → LeavesDurably files account from f (holds was left) (holds rows maildir)
  leaves_durably durably = record {
    is = durable;
    named = none_or_named;
    shown = shown;
    left = λ trust could then opened may stands id d. records_left trust durably could then may (opened, stands) id d;
  }
