-- What a session leaves of an account with an mboxrd file: the texts that its tasks appended, and the intent of the next one.
use Rattle.std.{
  proofs.Common.{◌≡◌, ◌+◌, ℕ, true, false, List, ◌∷◌, ◌++◌, map, Option, Some, refl, sym, ap, append_assoc, arith, slice_get, take, ◌∙◌},
  proofs.Common.{⊎_elim, ◌⊎◌, inl, inr, None, Result, Ok, Err, []},
  proofs.lemmas.{List.{append-nil, take_at, length-map, map-append, Concat.flat_map-append}, Simd.map-map, Option.same_Some},
  specs.List.AllByRecursion,
}
use Rattle.mail_terms.specs.Listing.{Item}
use Rattle.rc_file.specs.declared.settings.Settings.{Settings}
use Rattle.fetch_record.specs.Record.{Row, marked, RecordState, none_open, Intent}
use Rattle.session_parts.{
  specs.{Task.{Task, stores, rereads, Done, tasks_of, texts_in, done_texts}, CarryingOut.{Carried, tasks_ahead as tasks_for}},
  specs.{Target.{Stores, no_maildir, AsEntries, mail_in, closed_file, closed_rows_in}, Record.{Keeps, Steady, record_state, with_open}},
  specs.declared.fault.{Cut.Cut, Fault.{Fault, TheVariants.{SeenRefused, NoMemory, StoreRefused}}},
  specs.declared.report.{Report.Report, Outcome.TheVariants.Cut as WasCut},
  specs.{Scene.{Scene, Went, Fell, NoEntry, Stops, Does, EntryNotSaved}, Session.{outcome_of, Keeping, SessionIn}},
  specs.{Readiness.{IsSettledBy, SettlesStore}, Mbox.{IsTakenBack, LeavesSame, RefusesAgain, RefusesEntry, intent_of}},
  proofs.TextLemmas.same_content,
}
use Rattle.pop3_wire.specs.{Link.Link, Place.Place, Reading.WholeReply}
use Rattle.fetch_runs.{
  specs.{Sessions.{MboxLeaves, MboxStores, IsBroken, IsUnsaved, settled, entries, bytes_at}, Below.Below, Steps.mbox_holds},
  proofs.Turns.{found_for, found_by, text_found, Course, course, course_of, stored_done, found_of, course_stopped, course_does, begun_of},
  proofs.Turns.effect_of,
  proofs.{Lists.{at_length, mapped_at, same_held as same_record}, State.{CourseLeads, by_course}},
  proofs.Tasks.{key, fetched_in, fetched_by, IsRight, Inputs, rows_on, messages_on, texts_by, count, same_length, rows_after, Part},
  proofs.Tasks.{right_part, wanted_are, records_part, Starts, or_less, Tally, not_ended, tally_begun, tally_number, tally_recorded},
  proofs.Tasks.{tally_none, mid_rows, mid_keeps, part_all, tally_all, part_done, tally_no_line, full_found, tally_spare, tally_old},
  proofs.Tasks.{tally_new, full_rows, is_ended},
}
use Rattle.mail_store.specs.{
  declared.fault.StoreFault.{StoreFault, TheVariants.{Missing, Refused, NotMbox, NoMemory as OutOfMemory}},
  FlatFile.Stored,
  Mboxrd.entry_of,
}
use Rattle.pop3_client.specs.{Conversation.Talked, Texts.body_text, Turns.retr}
use mathlib.Core.Logic.{⊎_map}
use Rattle.session_parts.specs.declared.fault.Why.TheVariants as why

-- the file was only looked at
pub same_looked : (old new : Stores) (fault : Fault) → RefusesAgain old fault new → new.mbox.content ≡ old.mbox.content
same_looked old new _ (refusal, _, (_, same)) = by refusal same
  where
    by : (refusal : StoreFault) → LeavesSame {T = Unit {0}} old.mbox (Err refusal) new.mbox → new.mbox.content ≡ old.mbox.content
    by Missing same = ap (λ (s : Stored). s.content) same
    by Refused same = ap (λ (s : Stored). s.content) same
    by NotMbox same = ap (λ (s : Stored). s.content) same
    by OutOfMemory same = ap (λ (s : Stored). s.content) same

-- ---- texts

-- no message counts as held, so each text that was retrieved was to be stored
texts_one : (items : List Item) (task : Task) (replies : List WholeReply) → IsRight [] no_maildir items task
    → texts_in task replies ≡ map text_found (found_for task replies)
texts_one _ (stores number _) replies _ = sym (map-map text_found (λ (reply : WholeReply). (number, body_text reply.body)) replies)
texts_one _ (rereads _ _) replies right = absurd cc
texts_one _ _ _ _ = refl

texts_same : (items : List Item) (dones : List Done) → AllByRecursion (IsRight [] no_maildir items) (tasks_of dones)
    → done_texts dones ≡ texts_by dones
texts_same _ [] _ = refl
texts_same items (d ∷ dones) right = simp (map-append, texts_one items d.task d.replies right.0, texts_same items dones right.1)

-- ---- the next message

front_texts : (texts more : List (List ℕ)) (dones : List Done) → texts ≡ texts_by dones ++ more → take (count dones) texts ≡ texts_by dones
front_texts _ more dones are = rw are (take_at (texts_by dones) more _ (length-map (found_by dones) text_found))

-- ---- what a text that wasn't appended leaves

-- no intent is open, and the file is as it was; or the text's is open, and a prefix of its entry follows
abbrev LeavesEntry : List ℕ → List Row → List ℕ → List ℕ → Stored → Stored → Type 0
LeavesEntry was rows uid text mbox' file' = ((mbox'.content ≡ Some was) × Keeps file'.content (none_open rows))
    ⊎ ((front behind : List ℕ) × (entry_of text ≡ front ++ behind) × (mbox'.content ≡ Some (was ++ front))
    × Keeps file'.content (with_open rows (intent_of was uid text)))

module _ (laws : Below) (was : List ℕ) (mbox file : Stored) (rows : List Row)
    (uid text : List ℕ) (mbox' file' : Stored) (there : mbox.content ≡ Some was)
    (steady : Steady file.content (none_open rows)) where
  -- what is known of the bytes before the entry is known of these
  open_for : (other : List ℕ) → mbox.content ≡ Some other → Keeps file'.content (with_open rows (intent_of other uid text))
      → Keeps file'.content (with_open rows (intent_of was uid text))
  open_for other is keeps = rw (← same_Some other was (sym is ∙ there)) keeps

  with_nothing : (other : List ℕ) → mbox.content ≡ Some other → mbox'.content ≡ mbox.content
      → Keeps file'.content (with_open rows (intent_of other uid text)) → LeavesEntry was rows uid text mbox' file'
  with_nothing _ is same keeps = inr ([], entry_of text, refl, same ∙ there ∙ ap Some (sym (append-nil was)), open_for _ is keeps)

  -- no intent was saved; or it was closed again, unless that was refused
  unopened : (file' ≡ file) ⊎ IsTakenBack mbox file rows uid text file' → mbox'.content ≡ mbox.content
      → LeavesEntry was rows uid text mbox' file'
  unopened (inl is) same = inl (same ∙ there, rw is (laws.steady file.content (none_open rows) steady))
  unopened (inr (_, _, _, saves, inl closes)) same =
      inl (same ∙ there, laws.steady file'.content (none_open rows) (closes.1 (saves.1 steady)))
  unopened (inr (other, is, opened, saves, inr closes)) same =
      ⊎_elim (with_nothing _ is same) (λ new. inl (same ∙ there, new))
      (laws.unsaved opened (with_open rows (intent_of other uid text)) (none_open rows) SeenRefused file' closes (saves.1 steady))

  leaves_entry : (fault : Fault) → RefusesEntry mbox file rows uid text fault mbox' file' → LeavesEntry was rows uid text mbox' file'
  leaves_entry (StoreRefused why.Missing) (none, same, is) = unopened (inl is) (same_content same)
  leaves_entry (StoreRefused why.Refused) (inl (same, how)) = unopened how (same_content same)
  leaves_entry (StoreRefused why.Refused) (inr ((other, is, saves), (bytes, front, behind, goes_on, entry, now))) =
      inr (
        front,
        behind,
        entry,
        rw (now, same_Some bytes was (sym goes_on.0 ∙ there)) refl,
        open_for _ is (laws.steady file'.content (with_open rows (intent_of other uid text)) (saves.1 steady)),
      )
  leaves_entry (StoreRefused why.NotMbox) (_, same, back) = unopened (inr back) (same_content same)
  leaves_entry SeenRefused (same, (other, is, saves)) =
      ⊎_elim (λ old. inl (same_content same ∙ there, old)) (with_nothing _ is (same_content same))
      (laws.unsaved file (none_open rows) (with_open rows (intent_of other uid text)) SeenRefused file' saves steady)
  leaves_entry NoMemory (same, how) = unopened how (same_content same)
  leaves_entry _ never = absurd never

-- ---- the account that a session left, and what it found

abbrev pub bytes_settled : List Item → RecordState → Stored → List ℕ
bytes_settled items held mbox = (settled items (mbox_holds held mbox)).file

-- the tasks are those of an account with an empty Maildir: no message counts as held
abbrev pub mbox_inputs : Settings → ℕ → RecordState → Stored → List Item → Inputs
mbox_inputs settings now held mbox items = record {
  settings = settings;
  account = [];
  items = items;
  now = now;
  maildir = no_maildir;
  rows = (settled items (mbox_holds held mbox)).rows;
}

pub record MboxLeads (settings : Settings) (now : ℕ) (held : RecordState) (mbox : Stored)
    (result : Result (Unit {0}) Cut) (c : Course) (mbox' : Stored) (Kept : RecordState → Type 0) : Type 0 where
  pub full : List Done
  pub noted : List Done
  pub tally : Tally (mbox_inputs settings now held mbox c.items) result c full noted (Unit {0})
  pub intent' : Option Intent
  pub keeps : Kept (record_state (rows_after (mbox_inputs settings now held mbox c.items) noted) intent')
  pub ending : ((intent' ≡ None)
      × (mail_in mbox'.content ≡ bytes_at (mbox_holds held mbox) (effect_of now (is_ended result) c) (count noted)))
      ⊎ IsBroken settings (mbox_holds held mbox) (effect_of now (is_ended result) c) (count noted)
      (mbox_holds (record_state (rows_after (mbox_inputs settings now held mbox c.items) noted) intent') mbox')
  pub last : count noted + 1 ≡ count c.taken
      → mail_in mbox'.content ≡ bytes_at (mbox_holds held mbox) (effect_of now (is_ended result) c) (count c.taken)
  pub closed : is_ended result ≡ true → intent' ≡ None

-- nothing was asked for: the record is as it was, and the file is as it was, or settled
pub record Rests (now : ℕ) (result : Result (Unit {0}) Cut) (c : Course) (held : RecordState) (mbox mbox' : Stored)
    (content' : Option (List ℕ)) : Type 0 where
  pub none : begun_of c ≡ []
  pub untaken : c.taken ≡ []
  pub keeps : Keeps content' held
  pub leaves : MboxLeaves (mbox_holds held mbox) (effect_of now (is_ended result) c) (mbox_holds held mbox')

-- the bytes of the settled file, and the entries of these tasks
abbrev pub bytes_after : List Item → RecordState → Stored → List Done → List ℕ
bytes_after items held mbox dones = bytes_settled items held mbox ++ entries (texts_by dones)

-- the tasks of the plan begin with the settled account
pub record BeginsSettled (settings : Settings) (now : ℕ) (held : RecordState) (mbox : Stored) (items : List Item) (tasks : List Task)
    (old : Scene) : Type 0 where
  pub starts : Starts (mbox_inputs settings now held mbox items) tasks old
  pub content : old.store.mbox.content ≡ Some (bytes_settled items held mbox)

-- what the session appended, and the report counts
abbrev pub mbox_figures : {settings : Settings} {now : ℕ} {held : RecordState} {mbox : Stored} {result : Result (Unit {0}) Cut}
    {c : Course} {mbox' : Stored} {Kept : RecordState → Type 0} (l : MboxLeads settings now held mbox result c mbox' Kept)
    (report : Report) → report.retrieved ≡ count c.taken → report.outcome ≡ outcome_of result
    → MboxStores settings (mbox_holds held mbox) (effect_of now (is_ended result) c)
    (mbox_holds (record_state (rows_after (mbox_inputs settings now held mbox c.items) l.noted) l.intent') mbox') report
mbox_figures l report retrieved outcome = record {
  stored = count l.noted;
  number = rw (retrieved, tally_number l.tally) (or_less l.tally.number);
  marks = rw (retrieved, outcome) (⊎_map (λ same. same) (λ less. (less.0, less.1, l.last less.0)) l.tally.mark);
  rows = records_part l.tally.part;
  ending = l.ending;
  begun = tally_begun l.tally;
  ended = λ is. (sym (l.tally.ends is).1, l.closed is);
}

-- ---- of tasks

module _ {items : List Item} {result : Result (Unit {0}) Cut} {taken full : List Done} {spare : List WholeReply}
    {under : List Task} where
  bytes_are : (now : ℕ) (held : RecordState) (mbox : Stored) {p : Inputs} {noted : List Done}
      → Tally p result (course items taken spare under) full noted (Unit {0}) → (more : List (List ℕ))
      → texts_by full ≡ texts_by taken ++ more
      → bytes_at (mbox_holds held mbox) (effect_of now (is_ended result) (course items taken spare under)) (count taken)
      ≡ bytes_after items held mbox taken
  bytes_are _ held mbox t _ texts = ap (λ ts. bytes_settled items held mbox ++ entries ts)
      (front_texts _ _ taken (ap (map text_found) t.found ∙ texts))

  -- no intent is open
  lead_closed : {settings : Settings} {now : ℕ} {held : RecordState} {mbox : Stored}
      → Tally (mbox_inputs settings now held mbox items) result (course items taken spare under) full taken (Unit {0})
      → {mbox' : Stored} (content' : Option (List ℕ)) (more : List (List ℕ)) → texts_by full ≡ texts_by taken ++ more
      → Keeps content' (none_open (rows_after (mbox_inputs settings now held mbox items) taken))
      → mail_in mbox'.content ≡ bytes_after items held mbox taken
      → MboxLeads settings now held mbox result (course items taken spare under) mbox' (Keeps content')
  lead_closed {now = now} {held} {mbox} t _ more texts keeps file = record {
    full = _;
    noted = _;
    tally = t;
    intent' = None;
    keeps = keeps;
    ending = inl (refl, file ∙ sym (bytes_are now held mbox t more texts));
    last = λ less. absurd (omega (arith, less));
    closed = λ is. refl;
  }

module _ {settings : Settings} {now : ℕ} {held : RecordState} {mbox : Stored} {items : List Item} {tasks : List Task} {old : Scene}
    (begins : BeginsSettled settings now held mbox items tasks old) where
  open begins use {starts}

  abbrev q : Inputs
  q = mbox_inputs settings now held mbox items

  abbrev bytes : List Done → List ℕ
  bytes dones = bytes_after items held mbox dones

  abbrev Leading : Result (Unit {0}) Cut → Course → Scene → Type 0
  Leading result c new = MboxLeads settings now held mbox result c new.store.mbox (Keeps new.file.content)

  -- what there was after the tasks that were done
  content_after : {dones : List Done} {mid : Scene} → Went AsEntries dones old mid → Part q dones
      → mid.store.mbox.content ≡ Some (bytes dones)
  content_after {dones} went part = rw (went.stored.content, begins.content, texts_same items dones (right_part part)) refl

  module _ {cut : Cut} {new : Scene} (fell : Fell AsEntries tasks old cut new) where
    abbrev Stopped : Course → Type 0
    Stopped c = Leading (Err cut) c new

    pub mid_content : fell.mid.store.mbox.content ≡ Some (bytes fell.dones)
    mid_content = content_after fell.went (part_done starts fell)

    same_held : (content : Option (List ℕ)) (intent : Option Intent) → Keeps content (record_state fell.mid.rows intent)
        → Keeps content (record_state (rows_after q fell.dones) intent)
    same_held _ _ keeps = rw (← mid_rows starts fell.went) keeps

    -- nothing more was recorded or appended
    mbox_still : {spare : List WholeReply} {under : List Task}
        → Tally q (Err cut) (course items fell.dones spare under) fell.dones fell.dones (Unit {0})
        → new.store.mbox.content ≡ fell.mid.store.mbox.content → new.file ≡ fell.mid.file
        → Stopped (course items fell.dones spare under)
    mbox_still t same file =
        lead_closed t _ [] (sym (append-nil _)) (rw file (mid_keeps starts fell.went)) (ap mail_in (same ∙ mid_content))

    -- a session with this course leaves the text's intent open after the entries of the tasks that were done
    abbrev pub LeavesOpen : Course → Stored → (RecordState → Type 0) → List ℕ → List ℕ → Type 0
    LeavesOpen c mbox' Kept uid text = (l : MboxLeads settings now held mbox (Err cut) c mbox' Kept)
        × (b : IsBroken settings (mbox_holds held mbox) (effect_of now false c) (count l.noted)
        (mbox_holds (record_state (rows_after (mbox_inputs settings now held mbox c.items) l.noted) l.intent') mbox'))
        × (l.ending ≡ inr b) × (b.text ≡ text) × (rows_after (mbox_inputs settings now held mbox c.items) l.noted ≡ fell.mid.rows)
        × (l.intent' ≡ Some (intent_of (bytes fell.dones) uid text))

    -- the next task retrieved a text
    module _ {number : ℕ} {uid : List ℕ} {reply : WholeReply} (is : fell.next ≡ stores number uid) {from to : Place}
        (talked : Talked (retr number ∷ []) (reply ∷ []) from to) where
      abbrev text : List ℕ
      text = body_text reply.body

      abbrev with_next : List Done
      with_next = fell.dones ++ stored_done number uid reply ∷ []

      full_texts : texts_by with_next ≡ texts_by fell.dones ++ text ∷ []
      full_texts = rw (full_found starts fell is talked) (map-append text_found (found_by fell.dones) ((number, text) ∷ []))

      longer : bytes with_next ≡ bytes fell.dones ++ entry_of text
      longer = rw (full_texts, flat_map-append entry_of (texts_by fell.dones) (text ∷ [])) (simp (append_assoc, append-nil))

      lead_open : {taken : List Done} {spare : List WholeReply} {under : List Task}
          → Tally q (Err cut) (course items taken spare under) with_next fell.dones (Unit {0})
          → {mbox' : Stored} {Kept : RecordState → Type 0}
          → Kept (record_state (rows_after q fell.dones) (Some (intent_of (bytes fell.dones) uid text)))
          → (front behind : List ℕ) → entry_of text ≡ front ++ behind → mail_in mbox'.content ≡ bytes fell.dones ++ front
          → (count fell.dones + 1 ≡ count taken → mail_in mbox'.content ≡ bytes_at (mbox_holds held mbox)
          (effect_of now false (course items taken spare under)) (count taken))
          → LeavesOpen (course items taken spare under) mbox' Kept uid text
      lead_open {taken} {spare} {under} t {mbox'} keeps front behind entry file last = (
        record {
          full = with_next;
          noted = fell.dones;
          tally = t;
          intent' = _;
          keeps = keeps;
          ending = inr b;
          last = last;
          closed = not_ended;
        },
        b,
        refl,
        refl,
        sym (mid_rows starts fell.went),
        refl,
      )
        where
          -- its message is the next of the wanted ones
          next : (message : ℕ × Item) × (slice_get (messages_on q) (count fell.dones) ≡ Some message) × (key message ≡ (number, uid))
          next = mapped_at key (messages_on q) (count fell.dones) (number, uid) (rw (
            ← wanted_are starts.laws q,
            (part_done starts fell).split,
            is,
            flat_map-append fetched_in (tasks_of fell.dones) (stores number uid ∷ fell.later),
            ← same_length fell.dones fell.went.each,
          ) (at_length (fetched_by (tasks_of fell.dones)) (number, uid) (fetched_by fell.later)))

          are : map text_found (found_of (course items taken spare under)) ≡ texts_by fell.dones ++ text ∷ []
          are = ap (map text_found) t.found ∙ full_texts

          b : IsBroken settings (mbox_holds held mbox) (effect_of now false (course items taken spare under)) (count fell.dones)
              (mbox_holds (record_state (rows_after q fell.dones) (Some (intent_of (bytes fell.dones) uid text))) mbox')
          b = record {
            message = next.0;
            text = text;
            wanted = next.1;
            got = rw (are, ← length-map (found_by fell.dones) text_found) (at_length (texts_by fell.dones) text []);
            opened = rw (front_texts _ (text ∷ []) fell.dones are) (record {
              intent = ap (λ (k : ℕ × List ℕ). Some (intent_of (bytes fell.dones) k.1 text)) (sym next.2);
              front = front;
              behind = behind;
              entry = entry;
              file = file;
            });
          }

      -- its text isn't in the report
      lead_spare : {mbox' : Stored} {Kept : RecordState → Type 0}
          → Kept (record_state (rows_after q fell.dones) (Some (intent_of (bytes fell.dones) uid text)))
          → (front behind : List ℕ) → entry_of text ≡ front ++ behind → mail_in mbox'.content ≡ bytes fell.dones ++ front
          → LeavesOpen (course items fell.dones (reply ∷ []) (fell.next ∷ [])) mbox' Kept uid text
      lead_spare keeps front behind entry file =
          lead_open (tally_spare starts fell is talked tt) keeps front behind entry file (λ less. absurd (omega (arith, less)))

      -- it is, and the whole entry is there
      lead_whole : IsUnsaved (WasCut cut.fault) → {mbox' : Stored} {Kept : RecordState → Type 0}
          → Kept (record_state (rows_after q fell.dones) (Some (intent_of (bytes fell.dones) uid text)))
          → mail_in mbox'.content ≡ bytes with_next → LeavesOpen (course items with_next [] []) mbox' Kept uid text
      lead_whole less keeps file =
          let t = tally_old starts fell is talked less in
          lead_open t keeps _ [] (sym (append-nil _)) (file ∙ longer)
          (λ _. file ∙ sym (bytes_are now held mbox t [] (sym (append-nil (texts_by with_next)))))

      -- its entry wasn't appended, or only a prefix of it
      refused : LeavesEntry (bytes fell.dones) fell.mid.rows uid text new.store.mbox new.file
          → Stopped (course items fell.dones (reply ∷ []) (fell.next ∷ []))
      refused (inl (same, keeps)) =
          lead_closed (tally_spare starts fell is talked tt) _ _ full_texts (same_held _ _ keeps) (ap mail_in same)
      refused (inr (front, behind, entry, now_is, keeps)) = (lead_spare (same_held _ _ keeps) front behind entry (ap mail_in now_is)).0

    -- its entry was appended, and the record is one of two
    mbox_unsaved : (u : EntryNotSaved fell.next fell.mid new cut)
        → Stopped (course items (fell.dones ++ stored_done u.number u.uid u.reply ∷ []) [] [])
    mbox_unsaved u =
        let (was, there, between, first, second) = u.saves in
        let content : new.store.mbox.content ≡ Some (bytes (fell.dones ++ stored_done u.number u.uid u.reply ∷ [])) =
        rw (u.stored.content, mid_content, longer u.is u.talked, append-nil) refl in
        elim (starts.laws.unsaved between (with_open fell.mid.rows (intent_of was u.uid (body_text u.reply.body)))
        (none_open (marked fell.mid.rows u.uid)) cut.fault new.file second (first.1 (fell.went.saved starts.steady))) [
          | inl old_one ↦ (lead_whole u.is u.talked (grind (arith, second))
              (rw (← same_Some was (bytes fell.dones) (sym there ∙ mid_content)) (same_held _ _ old_one)) (ap mail_in content)).0
          | inr new_one ↦ lead_closed (tally_new starts fell u.is u.talked) _ [] (sym (append-nil _))
              (rw (← full_rows starts fell u.is u.talked) new_one) (ap mail_in content)
        ]

    -- an mboxrd file with the whole entry of the text after those of the tasks that were done
    abbrev pub whole_in : List ℕ → Stored
    whole_in text = record { content = Some (bytes fell.dones ++ entry_of text); failures = 0 }

    -- so an account with that file and the text's open intent is left by a session with this course
    abbrev pub LeavesWhole : Course → List ℕ → List ℕ → Type 0
    LeavesWhole c uid text = LeavesOpen c (whole_in text) (λ _. Unit {0}) uid text

    pub whole_refused : (n : NoEntry fell.next fell.mid new cut)
        → LeavesWhole (course items fell.dones (n.reply ∷ []) (fell.next ∷ [])) n.uid (body_text n.reply.body)
    whole_refused n = lead_spare n.is n.talked tt _ [] (sym (append-nil _)) refl

    pub whole_unsaved : (u : EntryNotSaved fell.next fell.mid new cut)
        → LeavesWhole (course items (fell.dones ++ stored_done u.number u.uid u.reply ∷ []) [] []) u.uid (body_text u.reply.body)
    whole_unsaved u =
        let (was, there, between, first, second) = u.saves in
        lead_whole u.is u.talked (grind (arith, second)) tt (sym (longer u.is u.talked))

    mbox_stopped : (stops : Stops AsEntries fell.next fell.mid cut new)
        → Stopped (course_stopped AsEntries items fell.dones fell.next fell.mid new cut stops)
    mbox_stopped (inl broken) = mbox_still (tally_no_line starts fell) (ap (λ (s : Stores). s.mbox.content) broken.store) broken.file
    mbox_stopped (inr (inl (inl wanting))) =
        mbox_still (tally_no_line starts fell) (ap (λ (s : Stores). s.mbox.content) wanting.store) wanting.file
    mbox_stopped (inr (inl (inr (inl r)))) =
        refused r.is r.talked (leaves_entry starts.laws (bytes fell.dones) fell.mid.store.mbox fell.mid.file
        fell.mid.rows r.uid (body_text r.reply.body) new.store.mbox new.file mid_content
        (fell.went.saved starts.steady) cut.fault r.refuses)
    mbox_stopped (inr (inl (inr (inr stays)))) =
        mbox_still (tally_recorded (part_done starts fell) not_ended)
        (same_looked fell.mid.store new.store cut.fault stays.refuses) stays.file
    mbox_stopped (inr (inr u)) = mbox_unsaved u

  mbox_does_leads : (result : Result (Unit {0}) Cut) (new : Scene) (does : Does AsEntries tasks old result new)
      → Leading result (course_does AsEntries items tasks old new result does) new
  mbox_does_leads (Ok _) _ all = lead_closed (tally_all starts all) _ [] (sym (append-nil _)) (mid_keeps starts all.went)
      (ap mail_in (content_after all.went (part_all starts all)))
  mbox_does_leads (Err _) _ fell = mbox_stopped fell fell.stops

-- ---- of a session

module _ (laws : Below) (before : Keeping) (held : RecordState) (keeps : Keeps before.file.content held) where
  closed_is : (was : RecordState) (bytes : List ℕ) (items : List Item) → Keeps before.file.content was
      → before.store.mbox.content ≡ Some bytes → closed_file was.intent items bytes ≡ bytes_settled items held before.store.mbox
  closed_is was _ _ stood is = rw (same_record laws.one before.file.content was held stood keeps, is) refl

  rows_are : (was : RecordState) (items : List Item) → Keeps before.file.content was
      → closed_rows_in AsEntries before.store was items ≡ (settled items (mbox_holds held before.store.mbox)).rows
  rows_are was _ stood = rw (same_record laws.one before.file.content was held stood keeps) refl

  settled_content : (was : RecordState) (items : List Item) (new : Stores) → Keeps before.file.content was
      → SettlesStore AsEntries was items before.store new → new.mbox.content ≡ Some (bytes_settled items held before.store.mbox)
  settled_content was items _ stood (bytes, is, settled, _) = rw (settled, closed_is) refl

  -- what it had ready before its tasks
  pub carried_starts : {settings : Settings} {now : ℕ} {items : List Item} {place : _} {result : Result (Unit {0}) Cut}
      {new : Scene} {skipped : _}
      → (is : Carried settings AsEntries items now place before.store before.file [] result new skipped)
      → BeginsSettled settings now held before.store.mbox items (tasks_for settings AsEntries items now before.store is.mid.rows) is.mid
  carried_starts {settings} {now} {items} is =
      let rows : is.mid.rows ≡ rows_on (mbox_inputs settings now held before.store.mbox items) =
      rw (is.prepared.rows, rows_are is.prepared.was items is.prepared.stood) refl in
      record {
        starts = record {
          laws = laws;
          tasks_are = ap (tasks_for settings AsEntries items now before.store) rows;
          rows = rows;
          steady = is.prepared.saved;
        };
        content = settled_content _ _ is.mid.store is.prepared.stood is.prepared.settles;
      }

  abbrev Left : Settings → ℕ → Result (Unit {0}) Cut → Course → Stored → Option (List ℕ) → Type 0
  Left settings now result c mbox' content' = Rests now result c held before.store.mbox mbox' content'
      ⊎ MboxLeads settings now held before.store.mbox result c mbox' (Keeps content')

  pub course_leaves : {settings : Settings} {now : ℕ} {link link' : Link} {report : Report} {after : Keeping}
      (session : SessionIn settings AsEntries now link before report link' after)
      → CourseLeads (λ (c : Course). Left settings now session.result c after.store.mbox after.file.content) session.result before after
      session.notes.lines (course_of session)
  course_leaves {settings} {now} session = by_course session (λ r c store file. Left settings now r c store.mbox file.content)
      (λ items place cut new is.
      let rests : Keeps new.file.content held → (mail_in new.store.mbox.content ≡ mail_in before.store.mbox.content)
      ⊎ (mail_in new.store.mbox.content ≡ bytes_settled items held before.store.mbox)
      → Rests now (Err cut) (course items [] [] []) held before.store.mbox new.store.mbox new.file.content =
      λ stands mail. record {
        none = refl;
        untaken = refl;
        keeps = stands;
        leaves =
            record { rows = refl; intent = refl; file = mail; begun = refl; ended = refl };
      } in
      elim is.unready.content [
        | inl content ↦ inl (let by_cause : IsSettledBy items before.file before.store.mbox new.store.mbox =
            grind (arith, is.unready.cause) in rests (rw content keeps) (elim by_cause [
              | inl same ↦ inl (ap mail_in same)
              | inr (was, stood, inl same) ↦ inl (ap mail_in same)
              | inr (was, stood, inr (bytes, there, settled)) ↦ inr (ap mail_in settled ∙ closed_is was bytes items stood there)
            ]))
        | inr m ↦
            let settled = ap mail_in (settled_content m.was items new.store m.stood m.settles) in
            ⊎_elim (λ stays. inl (rests (rw (← same_record laws.one before.file.content m.was held m.stood keeps) stays) (inr settled)))
            (λ merges. inr (lead_closed (tally_none laws) _ [] refl (rw (← rows_are m.was items m.stood) merges)
            (settled ∙ sym (append-nil _)))) m.stands
      ]) (λ items place result new skipped is. inr (mbox_does_leads (carried_starts is) result new is.does))
