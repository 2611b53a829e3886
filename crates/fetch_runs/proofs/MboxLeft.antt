-- What a loss of power may leave of an account with an mboxrd file holds entries, also after a session that was cut.
use Rattle.std.proofs.{
  Common.{◌≡◌, inl, inr, ℕ, true, false, List, [], ◌∷◌, ◌++◌, length, take, refl, sym, ap, subst, ◌∙◌, Option, None, Some, Result, Ok, Err},
  Common.{append_assoc, append-nil, ⊎_elim},
  Math.Seq.take-append_seam,
  lemmas.Option.same_Some,
}
use Rattle.mail_terms.specs.Listing.{Item}
use Rattle.pop3_wire.specs.{Link.Link, World.Message, Place.at}
use Rattle.pop3_client.specs.Texts.{body_text}
use Rattle.rc_file.specs.Settings.{IsValid}
use Rattle.fetch_record.specs.Record.{Intent, RecordState, Row, has_row, is_delivered, marked, none_open}
use Rattle.mail_store.{
  specs.Devices.stored_in,
  specs.{Durable.MayLeave, FlatFile.Stored, Mboxrd.entry_of, Settling.MayBeLeft},
  specs.declared.file.flat_file.FlatFile.Ghosts as FileGhosts,
  proofs.{DiskLemmas.{may_arrive, may_now}, SettlingLemmas.all_left},
}
use Rattle.session_parts.specs.{
  Durable.{IsCutLeft, IsEntryLeft, IsGrownAtMost, IsSafeFile, LeavesSettled, LeavesStore, DurableSession, DurableUnready},
  Mbox.intent_of,
  declared.{fault.Cut.Cut, work.Store.TheVariants.Mboxrd as InMbox},
  CarryingOut.tasks_ahead,
  Readiness.{IsAnew, IsMerged, IsMergedAtMost, merged_in},
  Record.{Keeps, Steady, record_state, with_open},
  Scene.{EntryNotSaved, NoEntry, Scene, Stops},
  Session.{MboxAccountFiles, MboxSession, keeps_entries, mbox_account_files},
  Target.{AsEntries, Stores, closed_file, in_mbox, mail_in},
}
use Rattle.fetch_runs.{
  specs.{Below.Below, Steps.mbox_holds, Losses.{TrustsMbox, IsMboxSafe}, Sessions.{MboxMail, Served, entry_intent, settled}},
  specs.Promises.{Base, Call, Devices, HoldsEntries, IsMaildrop, IsMboxFront, IsTextOf, IsOpenFor, ShowsNext, Stands},
  proofs.{LeftRecords.{grown_reads, same_reads, merge_reads, IsBegun, end_of, Untouched, NotReady, Anew, Begun, way}, Tasks.rows_after},
  proofs.{Lists.{delivered_unheld, same_held}, Steps.{mbox_honest, retrieved_is}, Talk.{Planned, session_spoke}, Turns.{Course, effect_of}},
  proofs.MboxPromised.{bytes_of, ends_whole, entered, front_after, holds_after, next_is, open_row, opened_after, settled_is},
  proofs.MboxState.{BeginsSettled, LeavesWhole, bytes_after, carried_starts, mbox_figures, mbox_inputs, mid_content, same_looked, whole_in},
  proofs.MboxState.{whole_refused, whole_unsaved},
}

-- ---- accounts like one that holds entries

module _ (base : Base) (Among : List Message → Type 0) where
  -- it holds these entries, and the first messages of each of these lists have them
  abbrev pub Holds : List Message → MboxMail → Type 0
  Holds done account = (holds : HoldsEntries base done account) × ((all : List Message) → Among all → IsMboxFront base holds all)

  abbrev pub HoldsSome : MboxMail → Type 0
  HoldsSome account = (done : List Message) × Holds done account

  -- no intent is open, and the same is recorded
  closed_as : {done : List Message} {was : MboxMail} → Holds done was → (now : MboxMail) → now.intent ≡ None
      → ((id : List ℕ) → is_delivered now.rows id ≡ is_delivered was.rows id) → now.file ≡ bytes_of base done → Holds done now
  closed_as (holds, fronts) _ closed same file = (
    record { are = holds.are; new = holds.new; recorded = λ id. same id ∙ holds.recorded id; stands = inl (closed, file) },
    λ all among. let front = fronts all among in record {
      first = front.first;
      rest = front.rest;
      prefix = front.prefix;
      had = front.had;
      next = λ o e. absurd (let never = sym closed ∙ o.intent in cc);
    },
  )

  module _ {done : List Message} {was : MboxMail} (held : Holds done was) (o : IsOpenFor base (bytes_of base done) was)
      (is : held.0.stands ≡ inr o) where
    -- another part of the entry is there
    part_as : (part : List ℕ) → MayBeLeft (length (bytes_of base done)) (entry_of o.next.text) part
        → Holds done (record was { file = bytes_of base done ++ part })
    part_as part left =
        let now : IsOpenFor base (bytes_of base done) (record was { file = bytes_of base done ++ part }) = record {
          next = o.next;
          is = o.is;
          unrecorded = o.unrecorded;
          intent = o.intent;
          part = part;
          left = left;
          file = refl;
        } in (
          record { are = held.0.are; new = held.0.new; recorded = held.0.recorded; stands = inr now },
          λ all among.
              let front = held.1 all among in
              let (more, first) = front.next o is in
              record {
                first = front.first;
                rest = front.rest;
                prefix = front.prefix;
                had = front.had;
                next = next_is base now more first;
              },
        )

    -- nothing of it is there, and the intent is closed
    none_as : Holds done (record { rows = was.rows; intent = None; file = bytes_of base done })
    none_as = closed_as held _ refl (λ _. refl) refl

    -- all of it is, and the message is marked
    whole_as : Below → has_row was.rows o.next.uid ≡ true → Holds (done ++ o.next ∷ [])
        (record { rows = marked was.rows o.next.uid; intent = None; file = bytes_of base done ++ entry_of o.next.text })
    whole_as laws rowed = (
      entered base laws held.0 o rowed
          (record { rows = marked _ o.next.uid; intent = None; file = bytes_of base done ++ entry_of o.next.text }) refl refl refl,
      λ all among.
          let front = held.1 all among in
          let (more, first) = front.next o is in
          record {
            first = front.first;
            rest = more;
            prefix = front.prefix ∙ ap (λ l. (front.first ++ done) ++ l) first ∙ simp append_assoc;
            had = front.had;
            next = λ p e. absurd (let never = p.intent in cc);
          },
    )

  -- ---- an account that is settled

  module _ (laws : Below) {done : List Message} {was : MboxMail} (held : Holds done was)
      (rowed : (i : Intent) → was.intent ≡ Some i → has_row was.rows i.uid ≡ true) (listing : List Item) where
    abbrev settled_bytes : List ℕ
    settled_bytes = (settled listing was).file

    -- its file is, and the intent is still open
    file_settled : HoldsSome (record was { file = settled_bytes })
    file_settled = by _ refl
      where
        by : (stands : Stands base (bytes_of base done) was) → held.0.stands ≡ stands → HoldsSome (record was { file = settled_bytes })
        by (inl (closed, file)) is =
            let same : settled_bytes ≡ was.file = rw closed refl in
            (done, subst (λ (f : List ℕ). Holds done (record was { file = f })) (sym same) held)
        by (inr o) is = (
          done,
          elim (settled_is laws listing o) [
            | inl (rows, file) ↦ subst (λ (f : List ℕ). Holds done (record was { file = f })) (sym file)
                (part_as held o is (entry_of o.next.text) (all_left _ (entry_of o.next.text)))
            | inr (rows, file) ↦ subst (λ (f : List ℕ). Holds done (record was { file = f })) (append-nil _ ∙ sym file)
                (part_as held o is [] tt)
          ],
        )

    -- the intent is closed too, and these rows show the same as delivered
    all_settled : (rows : List Row) → ((id : List ℕ) → is_delivered rows id ≡ is_delivered (settled listing was).rows id)
        → HoldsSome (record { rows = rows; intent = None; file = settled_bytes })
    all_settled rows same = by _ refl
      where
        by : (stands : Stands base (bytes_of base done) was) → held.0.stands ≡ stands
            → HoldsSome (record { rows = rows; intent = None; file = settled_bytes })
        by (inl (closed, file)) is =
            let none : (settled listing was).rows ≡ was.rows = rw closed refl in (
              done,
              closed_as held _ refl (λ id. same id ∙ ap (λ r. is_delivered r id) none) (rw closed file),
            )
        by (inr o) is = elim (settled_is laws listing o) [
          | inl (marks, file) ↦
              let whole = whole_as held o is laws (rowed _ o.intent) in (
                done ++ o.next ∷ [],
                closed_as whole _ refl (λ id. same id ∙ ap (λ r. is_delivered r id) marks) (file ∙ ends_whole _ _ _ whole.0 refl),
              )
          | inr (marks, file) ↦ (
            done,
            closed_as held _ refl (λ id. same id ∙ ap (λ r. is_delivered r id) marks) file,
          )
        ]

  -- ---- what is left of a text's entry

  -- it has the whole entry of this text, whose intent is open
  pub record HoldsWhole (account : MboxMail) (text : List ℕ) : Type 0 where
    pub done : List Message
    pub held : Holds done account
    pub o : IsOpenFor base (bytes_of base done) account
    pub is : held.0.stands ≡ inr o
    pub text_is : o.next.text ≡ text

  -- the account after a text's entry was appended to these bytes
  abbrev pub with_entry : List Row → List ℕ → List ℕ → List ℕ → MboxMail
  with_entry rows bytes uid text = record { rows = rows; intent = Some (intent_of bytes uid text); file = bytes ++ entry_of text }

  module _ (laws : Below) (rows : List Row) (bytes uid text : List ℕ) (w : HoldsWhole (with_entry rows bytes uid text) text) where
    same_intent : intent_of bytes uid text ≡ entry_intent (bytes_of base w.done) w.o.next.uid w.o.next.text
    same_intent = same_Some _ _ w.o.intent

    bytes_are : bytes_of base w.done ≡ bytes
    bytes_are = sym (take-append_seam (bytes_of base w.done) w.o.part) ∙ ap (take (length (bytes_of base w.done))) (sym w.o.file)
        ∙ ap (λ n. take n (bytes ++ entry_of text)) (sym (ap (λ i. i.start) same_intent)) ∙ take-append_seam bytes (entry_of text)

    uid_is : w.o.next.uid ≡ uid
    uid_is = sym (ap (λ i. i.uid) same_intent)

    -- its intent is open
    abbrev opened : RecordState
    opened = with_open rows (intent_of bytes uid text)

    abbrev opened_at : List ℕ → MboxMail
    opened_at file = record { rows = rows; intent = opened.intent; file = file }

    -- this part of the entry is there
    with_part : (part : List ℕ) → MayBeLeft (length bytes) (entry_of text) part → HoldsSome (opened_at (bytes ++ part))
    with_part part left = (
      w.done,
      subst (λ b. Holds w.done (opened_at (b ++ part))) bytes_are (part_as w.held w.o w.is part (rw (bytes_are, w.text_is) left)),
    )

    -- nothing of it is, and no intent is open
    pub without : HoldsSome (record { rows = rows; intent = None; file = bytes })
    without = (
      w.done,
      subst (λ b. Holds w.done (record { rows = rows; intent = None; file = b })) bytes_are (none_as w.held w.o w.is),
    )

    ended : has_row rows uid ≡ true → HoldsSome (record { rows = marked rows uid; intent = None; file = bytes ++ entry_of text })
    ended rowed =
        let account : List ℕ → List ℕ → List ℕ → MboxMail =
        λ u b t. record { rows = marked rows u; intent = None; file = b ++ entry_of t } in
        let same : account w.o.next.uid (bytes_of base w.done) w.o.next.text ≡ account uid bytes text =
        rw (uid_is, bytes_are, w.text_is) refl in
        (w.done ++ w.o.next ∷ [], subst (Holds (w.done ++ w.o.next ∷ [])) same (whole_as w.held w.o w.is laws (rw uid_is rowed)))

    pub entry_left : (left mbox : Option (List ℕ)) (then : RecordState) → IsEntryLeft rows bytes uid text left mbox → Keeps left then
        → HoldsSome (record { rows = then.rows; intent = then.intent; file = mail_in mbox })
    entry_left left mbox then (inl (grown, is)) keeps = ⊎_elim (λ (same : then ≡ none_open rows). rw (same, is) without)
        (λ (same : then ≡ opened). rw (same, is) (subst (λ f. HoldsSome (opened_at f)) (append-nil bytes) (with_part [] tt)))
        (grown_reads laws then grown keeps)
    entry_left left mbox then (inr (inl (grown, (part, is, may)))) keeps = rw (same_reads laws then grown keeps, is) (with_part part may)
    entry_left left mbox then (inr (inr (grown, is))) keeps =
        let rowed : has_row rows uid ≡ true = open_row laws (Some grown.file.bytes) rows opened.intent
        (laws.steady (Some grown.file.bytes) opened grown.file.stands) (intent_of bytes uid text) refl in
        ⊎_elim (λ (same : then ≡ opened). rw (same, is) (with_part (entry_of text) (all_left (length bytes) (entry_of text))))
        (λ (same : then ≡ none_open (marked rows uid)). rw (same, is) (ended rowed))
        (grown_reads laws then grown keeps)

-- ---- what may be left of a file

-- a loss of power may leave what calls see
pub may_leave_seen : {F : Type 0} (files : FileGhosts F) (f : F)
    → MayLeave (files.disk f) (stored_in files f).content
may_leave_seen files f = may_now _ _ (may_arrive _)

-- ---- a session

module _ (laws : Below) (D : Type 0) {F : Type 0} (files : FileGhosts F)
    (base : Base) (Among : List Message → Type 0) {W S G : Type 0} (v : Call W S G) (link link' : Link)
    (valid : IsValid v.settings) (maildrop : IsMaildrop (IsTextOf base) v.maildrop) (only_new : v.settings.read_all ≡ false)
    (served : (sent got : List ℕ) → link'.sent ≡ link.sent ++ sent → link'.got ≡ link.got ++ got
    → Served v.maildrop sent got v.vanished)
    (from to : Devices F F) (held held' : RecordState) (done done' : List Message)
    (before : Holds base Among done (mbox_holds held (stored_in files from.store)))
    (after : Holds base Among done' (mbox_holds held' (stored_in files to.store)))
    (stood : Keeps (stored_in files from.file).content held) (stands : Keeps (stored_in files to.file).content held')
    (next : (all : List Message) (among : Among all)
    → ShowsNext v.settings v.maildrop ((before.1 all among).first ++ done) (before.1 all among).rest)
    (trust : TrustsMbox files from to) (safe : IsMboxSafe (Holds base Among) files from) where
  abbrev old : MboxAccountFiles
  old = mbox_account_files (stored_in files from.store) (stored_in files from.file)

  abbrev new : MboxAccountFiles
  new = mbox_account_files (stored_in files to.store) (stored_in files to.file)

  abbrev old_account : MboxMail
  old_account = mbox_holds held old.mbox

  -- a session with these files
  abbrev IsSession : Type 0
  IsSession = MboxSession v.settings v.now link old v.report link' new

  abbrev HoldsIn : RecordState → List ℕ → Type 0
  HoldsIn state bytes = HoldsSome base Among (record { rows = state.rows; intent = state.intent; file = bytes })

  -- the account with what is left of both files
  abbrev Left : Option (List ℕ) → Option (List ℕ) → Type 0
  Left left mbox = (then : RecordState) → Keeps left then → HoldsIn then (mail_in mbox)

  -- so it is whatever is left of both
  abbrev Leaves : Type 0
  Leaves = (left mbox : Option (List ℕ)) → MayLeave (files.disk to.file) left → MayLeave (files.disk to.store) mbox → Left left mbox

  rowed : (i : Intent) → held.intent ≡ Some i → has_row held.rows i.uid ≡ true
  rowed = open_row laws _ _ _ stood

  -- it could be left before
  left_before : (left mbox : Option (List ℕ)) → MayLeave (files.disk from.file) left → MayLeave (files.disk from.store) mbox
      → Left left mbox
  left_before left mbox may also then keeps = safe then.rows then.intent left mbox may keeps also

  -- the record that was read, with an mboxrd file that could be left
  read_before : (mbox : Option (List ℕ)) → MayLeave (files.disk from.store) mbox → HoldsIn held (mail_in mbox)
  read_before mbox also = left_before old.file.content mbox (may_leave_seen files from.file) also held stood

  -- it is what calls see
  left_after : (left mbox : Option (List ℕ)) → left ≡ new.file.content → mbox ≡ new.mbox.content → Left left mbox
  left_after _ _ is also then keeps = rw (same_held laws.one _ then held' (subst (λ c. Keeps c then) is keeps) stands, also) (done', after)

  -- what is left of the record's file is what was read
  read_is : {left : Option (List ℕ)} → left ≡ old.file.content → (then : RecordState) → Keeps left then → then ≡ held
  read_is is then keeps = same_held laws.one _ then held (subst (λ c. Keeps c then) is keeps) stood

  -- without a record's file nothing is left of one
  none_left : new.file.content ≡ None → (left : Option (List ℕ)) → MayLeave (files.disk to.file) left → left ≡ None
  none_left = let ((_, none), _, _, _) = trust in none

  -- just what calls see is left of the record's file, if it is safe
  record_left : IsSafeFile files to.file → (left : Option (List ℕ)) → MayLeave (files.disk to.file) left → left ≡ new.file.content
  record_left firm left may = by _ refl
    where
      by : (content : Option (List ℕ)) → new.file.content ≡ content → left ≡ new.file.content
      by None none = none_left none left may ∙ sym none
      by (Some bytes) some = (firm.1 bytes some).1 left may ∙ sym some

  mbox_left : IsSafeFile files to.store → (bytes : List ℕ) → new.mbox.content ≡ Some bytes
      → (mbox : Option (List ℕ)) → MayLeave (files.disk to.store) mbox → mbox ≡ new.mbox.content
  mbox_left firm bytes some mbox may = (firm.1 bytes some).1 mbox may ∙ sym some

  -- ---- it was cut while it prepared the record

  -- the file was cut to the place of the intent that was read
  cut_before : (i : Intent) → held.intent ≡ Some i → (was : List ℕ) → old.mbox.content ≡ Some was → HoldsIn held (take i.start was)
  cut_before i opened was has = by _ refl
    where
      by : (s : Stands base (bytes_of base done) old_account) → before.0.stands ≡ s → HoldsIn held (take i.start was)
      by (inl closed) is = absurd (let never = sym closed.0 ∙ opened in cc)
      by (inr o) is =
          let start = ap (λ j. j.start) (same_Some _ _ (sym opened ∙ o.intent)) in
          let bytes = sym (ap mail_in has) ∙ o.file in
          let cut = append-nil (bytes_of base done) ∙ sym (rw (start, bytes) (take-append_seam (bytes_of base done) o.part)) in (
            done,
            subst (λ f. Holds base Among done (record { rows = held.rows; intent = held.intent; file = f })) cut
                (part_as _ Among before o is [] tt),
          )

  module _ {items : List Item} {now : ℕ} (m : IsMerged AsEntries items now (in_mbox old.mbox) old.file (in_mbox new.mbox) new.file) where
    abbrev merged_rows : List Row
    merged_rows = merged_in AsEntries (in_mbox old.mbox) m.was items now

    -- they show the same as delivered as the settled ones
    merged_shows : (id : List ℕ) → is_delivered merged_rows id ≡ is_delivered (settled items old_account).rows id
    merged_shows id = rw (read_is refl m.was m.stood) (delivered_unheld laws _ items now id)

  abbrev Settles : Option Intent → Type 0
  Settles intent = LeavesSettled intent old.mbox.content (MayLeave (files.disk from.store)) (MayLeave (files.disk to.store))

  unready_left : {items : List Item} {now : ℕ} (content : IsMergedAtMost AsEntries items now (in_mbox old.mbox)
      old.file (in_mbox new.mbox) new.file)
      → DurableUnready {D = D} files (InMbox from.store) from.file content (InMbox to.store) to.file → Leaves
  unready_left (inl _) (no_more, inl still) left mbox may also = left_before left mbox (no_more left may) (still mbox also)
  unready_left (inl same) (no_more, inr (firm, (state, keeps, settles))) left mbox may also =
      by held.intent refl (rw (read_is same state keeps) at settles)
    where
      by : (intent : Option Intent) → held.intent ≡ intent → Settles held.intent → Left left mbox
      by None closed settles = left_before left mbox (no_more left may) (subst Settles closed settles mbox also)
      by (Some i) opened settles = elim (subst Settles opened settles mbox also) [
        | inl before ↦ left_before left mbox (no_more left may) before
        | inr (was, has, cut) ↦ λ then keeps. rw (read_is (record_left firm left may ∙ same) then keeps, cut) (cut_before i opened was has)
      ]
  unready_left (inr m) (inl (closed, leaves, still)) left mbox may also = λ then keeps.
      let was = read_is refl m.was m.stood in
      let none : held.intent ≡ None = sym (ap (λ (r : RecordState). r.intent) was) ∙ closed in
      let (first, here) = read_before mbox (still mbox also) in
      elim (leaves left may) [
        | inl could ↦ left_before left mbox could (still mbox also) then keeps
        | inr are ↦ ⊎_elim (λ (read : then ≡ m.was). rw (read ∙ was) (first, here)) (λ (read : then ≡ none_open (merged_rows m)). rw read (
          first,
          closed_as base Among here (record {
            rows = merged_rows m;
            intent = None;
            file = mail_in mbox;
          }) refl (λ id. merged_shows m id ∙ rw none refl) (ends_whole base first _ here.0 none),
        )) (merge_reads laws then are keeps)
      ]
  unready_left {items} (inr m) (inr (leaves, firm)) left mbox may also = λ then keeps.
      let was = read_is refl m.was m.stood in
      let (bytes, has, now_is, goes_on) = m.settles in
      let some : new.mbox.content ≡ Some (closed_file m.was.intent items bytes) = ap (λ (s : Stored). s.content) now_is in
      let file : mail_in mbox ≡ (settled items old_account).file =
      ap mail_in (mbox_left firm _ some mbox also ∙ some) ∙ rw (was, has) refl in
      elim (leaves left may) [
        | inl is ↦
            rw (read_is is then keeps, file) (file_settled base Among laws before rowed items)
        | inr are ↦ ⊎_elim (λ (read : then ≡ m.was). rw (read ∙ was, file) (file_settled base Among laws before rowed items))
            (λ (read : then ≡ none_open (merged_rows m)). rw (read, file) (all_settled base Among laws before rowed items
            (merged_rows m) (merged_shows m))) (merge_reads laws then are keeps)
      ]

  -- ---- nothing was to be done, and the record was written anew

  anew_left : (rows : List Row) {kept : Stored} → IsAnew rows old.file kept → Steady kept.content (none_open rows) → new.file ≡ kept
      → IsSafeFile files to.file → LeavesStore {D = D} files (InMbox from.store) (InMbox to.store) → Leaves
  anew_left rows {kept} (stale, _, _) saved same firm still left mbox may also then keeps =
      let now_is : Keeps new.file.content (none_open rows) =
      subst (λ (o : Option (List ℕ)). Keeps o (none_open rows)) (sym (ap (λ (s : Stored). s.content) same))
      (laws.steady kept.content (none_open rows) saved) in
      let read = same_held laws.one _ then (none_open rows) (subst (λ o. Keeps o then) (record_left firm _ may) keeps) now_is in
      rw (read ∙ read_is refl (none_open rows) stale) (read_before _ (still mbox also))

  -- ---- its tasks were begun

  module _ (session : IsSession) where
    abbrev BegunWith : Result (Unit {0}) Cut → Type 0
    BegunWith result = IsBegun {D = D} files session (InMbox to.store) to.file result

    -- it did all its tasks
    ended_left : BegunWith (Ok tt) → Leaves
    ended_left w left mbox may also =
        let some = rw (carried_starts laws (keeps_entries old) held stood w.c).content at w.c.does.went.stored.content in
        left_after _ _ (record_left w.durably.1 _ may) (mbox_left w.durably.2 _ some _ also)

  -- ---- it was cut at a task

  module _ (session : IsSession) {cut : Cut} (w : BegunWith session (Err cut)) where
    open w use {c, reports}

    abbrev items : List Item
    items = w.dealt.items

    abbrev end : Scene
    end = end_of session w.rows

    -- the session, if it stopped so
    abbrev session_at : Stops AsEntries c.does.next c.does.mid cut end → IsSession
    session_at stops = record {
      result = Err cut;
      mid = session.mid;
      notes = session.notes;
      proceeds = inr (inr (record w.dealt { carries = (w.rows, inr (record c { does = record c.does { stops = stops } })) }));
      leaves = w.leaves;
      reports = reports;
    }

    begins : BeginsSettled v.settings v.now held old.mbox items
        (tasks_ahead v.settings AsEntries items v.now (in_mbox old.mbox) c.mid.rows) c.mid
    begins = carried_starts laws (keeps_entries old) held stood c

    -- the mboxrd file after the tasks that were done
    abbrev bytes : List ℕ
    bytes = bytes_after items held old.mbox c.does.dones

    whole_holds : Stops AsEntries c.does.next c.does.mid cut end → {course : Course} {uid text : List ℕ}
        → Planned v.settings AsEntries v.now (keeps_entries old) link link' (Err cut) session.notes.lines course
        → LeavesWhole begins c.does course uid text
        → HoldsWhole base Among (with_entry base Among c.does.mid.rows bytes uid text) text
    whole_holds stops {course} {uid} {text} said (l, b, ending, text_is, rows_are, intent_is) =
        let figures = mbox_figures l v.report (retrieved_is (session_at stops) said) reports.outcome_is in
        let honest = mbox_honest laws held (session_at stops) l said (served said.sent said.got said.sent_is said.got_is) in
        let now : MboxMail = mbox_holds (record_state (rows_after (mbox_inputs v.settings v.now held old.mbox
        course.items) l.noted) l.intent') (whole_in begins c.does text) in
        let (o, is, text_was) = opened_after base laws before.0 rowed v now (effect_of v.now false course) maildrop only_new
        figures honest b ending in
        let same : now ≡ with_entry base Among c.does.mid.rows bytes uid text = rw (rows_are, intent_is) refl in
        subst (λ (account : MboxMail). HoldsWhole base Among account text) same (record {
          done = _;
          held = (
            holds_after base laws before.0 rowed v now (effect_of v.now false course) maildrop only_new figures honest,
            λ all among. front_after base laws before.0 rowed v now (effect_of v.now false course) maildrop only_new figures
                honest all (before.1 all among) (next all among),
          );
          o = o;
          is = is;
          text_is = text_was ∙ text_is;
        })

    refused_whole : (n : NoEntry c.does.next c.does.mid end cut)
        → HoldsWhole base Among (with_entry base Among c.does.mid.rows bytes n.uid (body_text n.reply.body)) (body_text n.reply.body)
    refused_whole n =
        let stops : Stops AsEntries c.does.next c.does.mid cut end = inr (inl (inr (inl n))) in
        whole_holds stops (session_spoke laws valid (session_at (inr (inl (inr (inl n)))))) (whole_refused begins c.does n)

    unsaved_whole : (u : EntryNotSaved c.does.next c.does.mid end cut)
        → HoldsWhole base Among (with_entry base Among c.does.mid.rows bytes u.uid (body_text u.reply.body)) (body_text u.reply.body)
    unsaved_whole u =
        let stops : Stops AsEntries c.does.next c.does.mid cut end = inr (inr u) in
        whole_holds stops (session_spoke laws valid (session_at (inr (inr u)))) (whole_unsaved begins c.does u)

    mid_is : c.does.mid.store.mbox.content ≡ Some bytes
    mid_is = mid_content begins c.does

    -- nothing was begun
    unbegun : Stops AsEntries c.does.next c.does.mid cut end → (left mbox : Option (List ℕ))
        → IsGrownAtMost (none_open c.does.mid.rows) (none_open c.does.mid.rows) left → mbox ≡ Some bytes → Left left mbox
    unbegun stops left mbox grown is then keeps = by stops
      where
        read : then ≡ none_open c.does.mid.rows
        read = same_reads laws then grown keeps

        -- calls see both files as they were
        quiet : new.file ≡ c.does.mid.file → new.mbox.content ≡ c.does.mid.store.mbox.content
            → HoldsIn then (mail_in mbox)
        quiet same same_mbox =
            let kept : Keeps new.file.content (none_open c.does.mid.rows) =
            subst (λ (o : Option (List ℕ)). Keeps o (none_open c.does.mid.rows)) (sym (ap (λ (s : Stored). s.content) same))
            (laws.steady c.does.mid.file.content (none_open c.does.mid.rows) (c.does.went.saved c.prepared.saved)) in
            let seen = same_held laws.one new.file.content (none_open c.does.mid.rows) held' kept stands in
            rw (read ∙ seen, is ∙ sym (same_mbox ∙ mid_is)) (done', after)

        by : Stops AsEntries c.does.next c.does.mid cut end
            → HoldsIn then (mail_in mbox)
        by (inl broken) = quiet broken.file (ap (λ (s : Stores). s.mbox.content) broken.store)
        by (inr (inl (inl wanting))) = quiet wanting.file (ap (λ (s : Stores). s.mbox.content) wanting.store)
        by (inr (inl (inr (inl n)))) = rw (read, is)
            (without base Among laws c.does.mid.rows bytes n.uid (body_text n.reply.body) (refused_whole n))
        by (inr (inl (inr (inr stays)))) = quiet stays.file (same_looked c.does.mid.store end.store cut.fault stays.refuses)
        by (inr (inr u)) = rw (read, is) (without base Among laws c.does.mid.rows bytes u.uid (body_text u.reply.body) (unsaved_whole u))

    cut_left : Leaves
    cut_left left mbox may also = by new.file.content refl
      where
        by_cut : IsCutLeft c.does.next c.does.mid cut end bytes left mbox → Left left mbox
        by_cut (inl (grown, is)) = unbegun c.does.stops left mbox grown is
        by_cut (inr (inl (n, e))) = λ then keeps. entry_left base Among laws c.does.mid.rows bytes n.uid (body_text n.reply.body)
            (refused_whole n) left mbox then e keeps
        by_cut (inr (inr (u, e))) = λ then keeps. entry_left base Among laws c.does.mid.rows bytes u.uid (body_text u.reply.body)
            (unsaved_whole u) left mbox then e keeps

        by : (content : Option (List ℕ)) → new.file.content ≡ content → Left left mbox
        by None none = left_after left mbox (none_left none left may ∙ sym none) (trust.3 none mbox also)
        by (Some now) some = by_cut (w.durably.1 trust.2 bytes mid_is mbox also now some left may)

  -- ---- whatever cut it

  pub session_left : (session : IsSession) → DurableSession {D = D} files (InMbox from.store) from.file session (InMbox to.store) to.file
      → IsMboxSafe (Holds base Among) files to
  session_left session durably rows intent left mbox may keeps also =
      let ((record_trusted, _), mbox_trusted, _, _) = trust in
      let goes = way {D = D} files (InMbox from.store) from.file session (InMbox to.store) to.file durably
      (mbox_trusted, record_trusted) in
      let all : Left left mbox = elim goes [
        | Untouched un still ↦ left_before left mbox (un.no_more left may) (still mbox also)
        | NotReady _ _ is leaves ↦ unready_left is.content leaves left mbox may also
        | Anew now_rows kept is saved same firm still ↦ anew_left now_rows is saved same firm still left mbox may also
        | Begun result w ↦ by result w left mbox may also
      ] in all (record_state rows intent) keeps
    where
      by : (result : Result (Unit {0}) Cut) → BegunWith session result → Leaves
      by (Ok _) w = ended_left session w
      by (Err _) w = cut_left session w
