-- What a session leaves of the record's file, and what a loss of power may leave of that, shows what was recorded before.
use Rattle.std.{
  proofs.Common.{◌≡◌, ◌⊎◌, inl, inr, ℕ, List, true, false, Bool, Option, None, Some, Result, Ok, Err, refl, sym, ap, subst, ◌∙◌, ⊎_elim},
  proofs.lemmas.Bool.or_left,
  proofs.Math.Logic.⊎_map,
}
use Rattle.fetch_record.specs.{Record.{Intent, Row, RecordState, is_delivered, marked_all}, Intents.closed_rows}
use Rattle.session_parts.specs.{
  Record.{Keeps, KeepsRows, record_state},
  Durable.{AreTrusted, DurableSession, DurableUnready, IsSafeFile, LeavesMerged},
  declared.{work.Store.Store, fault.Cut.Cut, report.Report.Report},
  Readiness.{IsMerged, IsMergedAtMost, merged_in},
  Session.{SessionIn, keeping},
  Target.{AsEntries, AsFiles, Stores, Target, closed_rows_in, is_stored, mail_in, none_held},
  Task.{ids_in, marked_ids},
}
use Rattle.mail_store.specs.{
  Devices.stored_in,
  Durable.MayLeave,
  FlatFile.Stored,
  Held.flags_of,
  declared.file.flat_file.FlatFile.Ghosts as FileGhosts,
}
use Rattle.mail_terms.specs.Listing.{Item}
use Rattle.pop3_wire.specs.Link.{Link}
use Rattle.rc_file.specs.declared.settings.Settings.{Settings}
use Rattle.fetch_runs.{
  specs.{Below.Below, Losses.{KeepsRecorded, ShowsAll}},
  proofs.LeftRecords.{Anew, Begun, IsBegun, NotReady, Untouched, ended_way, left_stands, merge_reads, rows_in, way},
  proofs.Lists.{marks_stay, same_kept_rows},
}

-- a merge keeps what was recorded, and so does the end of an intent
closed_shows : Below → (whole : Bool) (rows : List Row) (intent : Option Intent) → ShowsAll rows (closed_rows whole rows intent)
closed_shows laws whole rows None id d = d
closed_shows laws true rows (Some intent) id d = laws.marks rows intent.uid id ∙ or_left _ _ d
closed_shows laws false rows (Some intent) id d = d

merged_shows : Below → (target : Target) (store : Stores) (was : RecordState) (items : List Item) (now : ℕ)
    → ShowsAll was.rows (merged_in target store was items now)
merged_shows laws (AsFiles account) store was items now id d =
    laws.merges was.rows items (flags_of account store.maildir items) now id ∙ or_left _ _ d
merged_shows laws AsEntries store was items now id d =
    laws.merges (closed_rows_in AsEntries store was items) items (none_held items) now id
    ∙ or_left _ _ (closed_shows laws (is_stored was.intent items (mail_in store.mbox.content)) was.rows was.intent id d)

module _ (laws : Below) {D F : Type 0} (files : FileGhosts F) (was store : Store D F) (from f : F) {settings : Settings}
    {target : Target} {now : ℕ} {link link' : Link} {held held' : Stores} {report : Report}
    (session : SessionIn settings target now link (keeping held (stored_in files from)) report link' (keeping held' (stored_in files f)))
    (shown rows : List Row) (stood : KeepsRows (stored_in files from).content shown) (keeps : KeepsRows (stored_in files f).content rows)
    (trusted : AreTrusted files was from)
    (none_left : (stored_in files f).content ≡ None → (left : Option (List ℕ)) → MayLeave (files.disk f) left → left ≡ None)
    (stays : ShowsAll shown rows) where
  abbrev old : Stored
  old = stored_in files from

  abbrev new : Stored
  new = stored_in files f

  -- whatever may be left is what calls see
  by_safe : IsSafeFile files f → (could : Option (List ℕ)) (then : List Row) → MayLeave (files.disk f) could
      → KeepsRows could then → then ≡ rows
  by_safe safe could then may k = by new.content refl
    where
      by : (content : Option (List ℕ)) → new.content ≡ content → then ≡ rows
      by None none = same_kept_rows laws.one new.content then rows (rw (none_left none could may ∙ sym none) at k) keeps
      by (Some bytes) some = same_kept_rows laws.one new.content then rows (rw ((safe.1 bytes some).1 could may ∙ sym some) at k) keeps

  abbrev Kept : Type 0
  Kept = (could : Option (List ℕ)) (then : List Row) → MayLeave (files.disk f) could → KeepsRows could then
      → MayLeave (files.disk from) could ⊎ ShowsAll shown then

  shown_in : (had : RecordState) → Keeps old.content had → ShowsAll shown had.rows
  shown_in had stands id d = ap (λ r. is_delivered r id) (same_kept_rows laws.one old.content had.rows shown (had.intent, stands) stood) ∙ d

  merged_kept : (items : List Item) (m : IsMerged target items now held old held' new)
      (Before : Option (List ℕ) → Type 0) → ((could : Option (List ℕ)) (then : List Row) → Before could
      → KeepsRows could then → MayLeave (files.disk from) could ⊎ ShowsAll shown then)
      → LeavesMerged Before m.was (merged_in target held m.was items now) (MayLeave (files.disk f)) → Kept
  merged_kept items m Before of_before leaves could then may k = elim (leaves could may) [
    | inl before ↦ of_before could then before k
    | inr are ↦
        let here = merged_in target held m.was items now in
        let read : (then ≡ m.was.rows) ⊎ (then ≡ here) = ⊎_map rows_in rows_in (merge_reads laws (record_state then k.0) are k.1) in
        inr (λ id d. ⊎_elim (λ is. rw is (shown_in m.was m.stood id d))
        (λ is. rw is (merged_shows laws target held m.was items now id (shown_in m.was m.stood id d))) read)
  ]

  unready_kept : (items : List Item) (content : IsMergedAtMost target items now held old held' new)
      → DurableUnready files was from content store f → Kept
  unready_kept items (inl _) (leaves, _) = λ could then may k. inl (leaves could may)
  unready_kept items (inr m) (inl (_, leaves, _)) =
      merged_kept items m (MayLeave (files.disk from)) (λ could then before k. inl before) leaves
  unready_kept items (inr m) (inr (leaves, _)) = merged_kept items m (λ left. left ≡ old.content)
      (λ could then is k. inr (λ id d. ap (λ r. is_delivered r id) (same_kept_rows laws.one old.content then shown
      (subst (λ (c : Option (List ℕ)). KeepsRows c then) is k) stood) ∙ d)) leaves

  begun_kept : {cut : Cut} → IsBegun files session store f (Err cut) → Kept
  begun_kept w could then may k = inr (by new.content refl)
    where
      open w use {c, durably}

      mid_shows : ShowsAll shown c.mid.rows
      mid_shows id d = ap (λ r. is_delivered r id) c.prepared.rows
          ∙ merged_shows laws target held c.prepared.was w.dealt.items now id (shown_in c.prepared.was c.prepared.stood id d)

      by : (content : Option (List ℕ)) → new.content ≡ content → ShowsAll shown then
      by None none id d =
          rw (same_kept_rows laws.one new.content then rows (rw (none_left none could may ∙ sym none) at k) keeps) (stays id d)
      by (Some bytes) some id d =
          let marks = marks_stay laws c.mid.rows (marked_ids c.does.dones) id (mid_shows id d) in
          elim (left_stands laws then (durably.0.left bytes some could may) k) [
            | inl same ↦ rw same marks
            | inr same ↦ rw same (marks_stay laws (marked_all c.mid.rows (marked_ids c.does.dones)) (ids_in c.does.next) id marks)
          ]

  session_kept : DurableSession files was from session store f → Kept
  session_kept durably = elim (way files was from session store f durably trusted) [
    | Untouched un _ ↦ λ could then may k. inl (un.no_more could may)
    | NotReady items cut is leaves ↦ unready_kept items is.content leaves
    | Anew _ _ _ _ _ safe _ ↦ λ could then may k. inr (λ id d. rw (by_safe safe could then may k) (stays id d))
    | Begun result w ↦ by result w
  ]
    where
      by : (result : Result (Unit {0}) Cut) → IsBegun files session store f result → Kept
      by (Ok _) w = λ could then may k. inr (λ id d. rw (by_safe w.durably.1 could then may k) (stays id d))
      by (Err _) w = begun_kept w

  pub keeps_recorded : DurableSession files was from session store f
      → KeepsRecorded (files.disk from) (files.disk f) shown rows report.outcome
  keeps_recorded durably = record {
    left = λ could then opened may stands. session_kept durably could then may (opened, stands);
    uncut = λ ended. elim (ended_way files was from session store f durably trusted ended) [
      | inl un ↦ inl (same_kept_rows laws.one new.content rows shown keeps
          (subst (λ (o : Option (List ℕ)). KeepsRows o shown) (sym (ap (λ (s : Stored). s.content) un.same)) stood))
      | inr safe ↦ inr (λ could then opened may stands id d. rw (by_safe safe could then may (opened, stands)) d)
    ];
  }
