-- How one text is taken: stored in a Maildir, or appended to an mboxrd file.
use Rattle.std.{
  proofs.Common.{rules, ◌≡◌, inl, inr, ◌≤◌, ◌+◌, ℕ, List, [], ◌∷◌, ◌++◌, length, take, Option, None, Some, Result, Ok, Err, refl, sym, ap},
  proofs.Common.{subst, ◌∙◌, arith, length-append, ◌⊎◌, Bool, true, append_assoc, append-nil},
  proofs.lemmas.{List.length-take-le, Option.none-some},
  specs.List.AllZip,
}
use Rattle.mail_store.specs.{
  Maildir.{AllNamed, File, IsNamed, Maildir, MayBeNamed, draft, dropped, with_file},
  FileName.{sized, sized_file, stem_of},
  FlatFile.{Stored, TellsEdges, holding},
  Mboxrd.entry_of,
  declared.{fault.{StoreFault.StoreFault, EntryFault.TheVariants.Nothing}, file.flat_file.Edges.Edges},
  MboxCalls.{RefusesLook, SeesEntry, TellsMbox},
}
use Rattle.pop3_client.specs.{
  declared.fault.ClientFault.ClientFault,
  Turns.{Turn, retr},
  Conversation.{Talked, Broke},
  Texts.{Fetched, body_text},
}
use Rattle.session_parts.{
  specs.declared.{fault.{Fault.{Fault, TheVariants.{SeenRefused, NoMemory}}, Cut.Cut}, readiness.Found.Found},
  specs.declared.report.ReportLine.{ReportLine, TheVariants.Delivered},
  specs.{Fault.{cut_of, fault_of}, Record.{Saves, record_state_in, intent_at, with_open}},
  specs.Store.{Gained, MayGain, begun_with, EndsFile, StopsStoring, StoresText, StopsReading, ReadsText, Appended},
  specs.Task.{Task, Done, IsAnswered, stores, turns_in, turns_of, texts_in, ids_in, replies_of, report_lines, files_in},
  specs.Scene.{EntryNotSaved, NoEntry, scene, Stops, TakesTask},
  specs.Target.{Target, AsFiles, Stores, in_maildir, AsEntries, closed_file, in_mbox, is_stored, none_held},
  specs.Mbox.{AppendsText, AsksMbox, TakesText, IsSettledAtMost, IsStoreFault, IsTakenBack, MarksEntry, RefusesEntry, SettlesIntent},
  specs.Mbox.{LeavesSame, intent_of},
  proofs.SceneLemmas.brings_same,
}
use Rattle.pop3_wire.specs.{Bodies.Rest, Place.Place, Body.{lf_line, text_of, unstuffed}}
use Rattle.fetch_record.specs.Record.{Row, none_open, marked, RecordState, Intent, Loaded}
use Rattle.mail_terms.specs.{Listing.Item, Text.IsWhole}
use Rattle.mail_store.specs.declared.fault.StoreFault.TheVariants as refused

-- ---- what storing a text leaves

pub gained_file : (old new : Maildir) (f : File) → new ≡ with_file old f → Gained old new (f ∷ [])
gained_file _ _ f is =
    rw is (record { came = refl; taken = refl; odd = refl; there = refl; none_begun = λ _. refl; failures = omega arith })

pub not_grown : (old new : Maildir) (name : List ℕ) → old.begun ≡ None → new ≡ old → MayGain name old new
not_grown _ _ _ none_begun is = rw is (record { none_begun = none_begun; came = inl refl })

-- ---- a text, piece by piece

pub dropped_none_begun : (old : Maildir) → old.begun ≡ None → dropped old ≡ old
dropped_none_begun old none_begun = λ i. record old { begun = sym none_begun i }

-- a flush of names changes nothing if each is durable
pub named_before : (files risen : List File) → AllNamed files → AllZip MayBeNamed files risen → risen ≡ files
named_before [] [] _ _ = refl
named_before [] (g ∷ _) _ never = absurd never
named_before (f ∷ _) [] _ never = absurd never
named_before (f ∷ files) (g ∷ risen) all (inl same, are) = rw (same, named_before files risen all.1 are) refl
named_before (f ∷ files) (g ∷ risen) all (inr same, are) =
    rw (same, named_before files risen all.1 are) (λ i. record f { is_named = sym all.0 i } ∷ files)

-- one more name is durable
pub named_more : (files : List File) (f : File) → AllNamed files → IsNamed f → AllNamed (files ++ f ∷ [])
named_more [] f _ is = (is, tt)
named_more (g ∷ files) f all is = (all.0, named_more files f all.1 is)

-- what was written is in a file whose name gives its length
pub settled : (old now new : Maildir) (stem text : List ℕ) (octets : ℕ) → now ≡ begun_with old (draft stem text) → octets ≡ length text
    → EndsFile now (sized stem octets) (Ok tt) new → new ≡ with_file old (sized_file stem text)
settled _ _ _ stem text _ was counts ends = (rw (was, counts) at ends) (draft stem text) refl

stops_grows : (old new : Maildir) (name text : List ℕ) (fault : Fault) (rest : Option Rest) → old.begun ≡ None
    → StopsStoring name old text fault rest new → MayGain name old new
stops_grows old new name _ _ None none_begun is = not_grown _ _ _ none_begun is
stops_grows old new name _ _ (Some _) none_begun (inl missing) = not_grown _ _ _ none_begun missing.2
stops_grows _ _ _ _ _ (Some _) none_begun (inr (_, inl is)) = rw is (record { none_begun = refl; came = inl refl })
stops_grows _ _ _ text _ (Some _) none_begun (inr (_, inr (_, (is_named, there)))) =
    rw there (record { none_begun = refl; came = inr (text, is_named, refl) })

pub stores_grows : (old new : Maildir) (name text : List ℕ) (r : Result ℕ Cut) → old.begun ≡ None
    → StoresText name old text r new → MayGain name old new
stores_grows _ _ _ text (Ok _) none_begun is = rw is.0 (record { none_begun = refl; came = inr (text, true, refl) })
stores_grows old new name text (Err cut) none_begun is = stops_grows _ _ _ _ _ _ none_begun is

-- a text that grew by the first `put` of some bytes is `put` longer
pub longer : (n put : ℕ) (text out : List ℕ) → n ≡ length text → put ≤ length out → n + put ≡ length (text ++ take put out)
longer n put text out is within = omega (arith, is, length-append text (take put out), length-take-le put out within)

-- ---- one text is taken into a Maildir, and the other tasks

-- the conversation broke
pub text_broken : (target : Target) {task : Task} {turn : Turn} {a b : Place} {store : Stores} {file : Stored}
    {rows : List Row} {lines : List ReportLine} (fault : ClientFault) → turns_in task ≡ turn ∷ [] → Broke turn a b fault
    → Stops target task (scene a store file rows lines) (cut_of (fault_of fault) None) (scene b store file rows lines)
text_broken _ {turn = turn} fault takes broke =
    inl (record {
      none = refl;
      turn = turn;
      takes = takes;
      broke = (fault, refl, broke);
      store = refl;
      file =
          refl;
      rows = refl;
      lines = refl;
    })

-- it wasn't stored
pub text_stops : {account : List ℕ} {n : ℕ} {uid : List ℕ} {a b : Place} {maildir maildir' : Maildir} {file : Stored}
    {rows : List Row} {lines : List ReportLine} (text stem : List ℕ) (fault : Fault) (rest : Option Rest)
    → stem ≡ stem_of account uid → StopsStoring stem maildir text fault rest maildir' → StopsReading n a text fault rest b
    → Stops (AsFiles account) (stores n uid) (scene a (in_maildir maildir) file rows lines) (cut_of fault rest)
    (scene b (in_maildir maildir') file rows lines)
text_stops {n = n} text stem fault None named same broke =
    inl (record {
      none = refl;
      turn = retr n;
      takes = refl;
      broke = broke;
      store = ap in_maildir same;
      file =
          refl;
      rows = refl;
      lines = refl;
    })
text_stops {n = n} {uid} text stem fault (Some rest) named refuses reads = inr (inl (search (rules, rw named at refuses)))

-- it was stored, and marked
module _ {account : List ℕ} {n : ℕ} {uid : List ℕ} {a b : Place} {maildir maildir' : Maildir} {file file' : Stored}
    {rows rows' : List Row} {lines lines' : List ReportLine} where
  pub text_stored : (octets : ℕ) (text stem : List ℕ) → stem ≡ stem_of account uid
      → StoresText stem maildir text (Ok octets) maildir' → ReadsText n a text (Ok octets) b → rows' ≡ marked rows uid
      → Saves file (none_open rows) (none_open (marked rows uid)) (Ok tt) file' → lines' ≡ lines ++ Delivered n octets ∷ []
      → TakesTask (AsFiles account) (stores n uid) (scene a (in_maildir maildir) file rows lines) (Ok tt)
      (scene b (in_maildir maildir') file' rows' lines')
  text_stored _ _ _ named stored reads mark saves told = (
    reads.0 ∷ [],
    record {
      talked = reads.1;
      each = (reads.1.good, tt);
      stored = gained_file _ _ _ (simp (stored.0, named, reads.2));
      rows = mark;
      saved = λ stood. rw mark (saves.1 stood);
      file_count = omega (arith, saves.0);
      lines = simp (told, stored.1, reads.2);
    },
  )

  -- it was stored, and the record wasn't saved
  pub text_not_saved : (octets : ℕ) (text stem : List ℕ) (fault : Fault) → stem ≡ stem_of account uid
      → StoresText stem maildir text (Ok octets) maildir' → ReadsText n a text (Ok octets) b
      → Saves file (none_open rows) (none_open (marked rows uid)) (Err fault) file' → lines' ≡ lines ++ Delivered n octets ∷ []
      → Stops (AsFiles account) (stores n uid) (scene a (in_maildir maildir) file rows lines) (cut_of fault None)
      (scene b (in_maildir maildir') file' rows' lines')
  text_not_saved _ _ _ _ named stored reads saves told =
      inr (inr (record {
        none = refl;
        number = n;
        uid = uid;
        reply = reads.0;
        is = refl;
        talked = reads.1;
        stored = gained_file _ _ _ (simp (stored.0, named, reads.2));
        saves = saves;
        lines = simp (told, stored.1, reads.2);
      }))

-- ---- the other tasks

-- nothing came of its text, if it has one
pub taken_idle : (target : Target) (done : Done) {a b : Place} {store : Stores} {file : Stored} {rows : List Row}
    {lines lines' : List ReportLine}
    → ((account : List ℕ) → files_in account done.task done.replies ≡ []) → texts_in done.task done.replies ≡ []
    → ids_in done.task ≡ [] → IsAnswered done
    → Talked (turns_of (done ∷ [])) (replies_of (done ∷ [])) a b → lines' ≡ lines ++ report_lines (done ∷ [])
    → TakesTask target done.task (scene a store file rows lines) (Ok tt) (scene b store file rows lines')
taken_idle target done {store = store} {rows = rows} files texts ids answered talked told = (
  done.replies,
  record {
    talked = talked;
    each = (answered, tt);
    stored = brings_same _ _ _ files texts;
    rows =
        rw ids refl;
    saved = λ stands. stands;
    file_count = omega arith;
    lines = told;
  },
)

-- ---- contents

none_some : {P : Type 0} (content : Option (List ℕ)) (bytes : List ℕ) → content ≡ None → content ≡ Some bytes → P
none_some _ bytes none some = absurd (none-some bytes (cc))

none_or_bytes : (content : Option (List ℕ)) → (content ≡ None) ⊎ ((bytes : List ℕ) × (content ≡ Some bytes))
none_or_bytes None = inl refl
none_or_bytes (Some bytes) = inr (bytes, refl)

pub held_same : (old : Stored) (bytes : List ℕ) → old.content ≡ Some bytes → old ≡ holding old bytes
held_same old bytes is = ap (λ (c : Option (List ℕ)). let s : Stored = record old { content = c } in s) is

pub same_content : {a b : Stored} → a ≡ b → a.content ≡ b.content
same_content is = ap (λ (s : Stored). s.content) is

-- ---- settling

-- an intent was ended: there was no file, or it is settled
settles_either : (intent : Option Intent) (items : List Item) (old mid : Stored) (stored : Bool)
    → SettlesIntent intent items old (Ok stored) mid → ((old.content ≡ None) × (mid ≡ old)) ⊎ ((was : List ℕ) × (old.content ≡ Some was)
    × (stored ≡ is_stored intent items was) × (mid ≡ holding old (closed_file intent items was)))
settles_either None _ old _ _ (whole, same) =
    elim (none_or_bytes old.content) [
      | inl none ↦ inl (none, same)
      | inr (was, some) ↦ inr (was, some, whole, same ∙ held_same _ _ some)
    ]
settles_either (Some _) _ _ _ _ (was, some, whole, now) = inr (was, some, whole, now)

pub asks_ok : (intent : Option Intent) (old mid new : Stored) (stored : Bool) (items : List Item) (found : Found)
    → SettlesIntent intent items old (Ok stored) mid → TellsMbox {T = Unit {0}} mid.content (Ok tt) × (new ≡ mid) → found.stored ≡ stored
    → found.held.items ≡ none_held items → found.odd.items ≡ none_held items → AsksMbox intent old items (Ok found) new
asks_ok intent old mid new stored items found settles ((bytes, goes_on), same) stored_is flags odd =
    elim (settles_either intent items old mid stored settles) [
      | inl (none, is) ↦ none_some mid.content bytes (same_content is ∙ none) goes_on.0
      | inr (was, some, whole, now) ↦ (
          let closed : closed_file intent items was ≡ bytes = cc (rw now at goes_on.0) in
          (was, some, stored_is ∙ whole, same ∙ now, rw closed goes_on.1, flags, odd)
          )
    ]

at_most : (intent : Option Intent) (items : List Item) (old mid new : Stored) (stored : Bool)
    → SettlesIntent intent items old (Ok stored) mid → new.content ≡ mid.content → IsSettledAtMost intent items old new
at_most intent items old mid new stored settles same =
    elim (settles_either intent items old mid stored settles) [
      | inl (none, is) ↦ inl (same ∙ same_content is)
      | inr (was, some, whole, now) ↦ inr (was, some, same ∙ same_content now)
    ]

failures_kept : (intent : Option Intent) (items : List Item) (old mid : Stored) (stored : Bool)
    → SettlesIntent intent items old (Ok stored) mid → mid.failures ≡ old.failures
failures_kept None _ _ _ _ is = cc
failures_kept (Some _) _ _ _ _ is = cc

-- the file was refused
pub asks_refused : (intent : Option Intent) (old mid new : Stored) (stored : Bool) (items : List Item)
    (why : StoreFault) (fault : Fault) → SettlesIntent intent items old (Ok stored) mid → RefusesLook mid.content why × LeavesSame
    {T = Unit {0}} mid (Err why) new
    → IsStoreFault why fault
    → AsksMbox intent old items (Err fault) new
asks_refused intent old mid new stored items refused.Missing fault settles (none, same) is =
    rw is (elim (settles_either intent items old mid stored settles) [
      | inl (missing, is) ↦ (missing, same ∙ is)
      | inr (was, some, whole, now) ↦ none_some mid.content (closed_file intent items was) none (same_content now)
    ])
asks_refused intent old mid new stored items refused.Refused fault settles (_, same) is =
    rw is (
      rw (same, failures_kept intent items old mid stored settles),
      at_most intent items old mid new stored settles (same_content same),
    )
asks_refused intent old mid new stored items refused.NotMbox fault settles ((bytes, is_mid, other), same) is =
    rw is (elim (settles_either intent items old mid stored settles) [
      | inl (none, is) ↦ none_some mid.content bytes (same_content is ∙ none) is_mid
      | inr (was, some, whole, now) ↦ (
          let closed : closed_file intent items was ≡ bytes = cc (rw now at is_mid) in
          (was, some, λ goes_on. other (rw closed at goes_on), same ∙ now)
          )
    ])
asks_refused intent old mid new stored items refused.NoMemory fault settles never is = absurd never.0

-- ---- a text that is appended

-- the file was refused before the intent was saved
pub not_measured : (mbox mbox' file : Stored) (rows : List Row) (uid text : List ℕ) (why : StoreFault) (fault : Fault)
    → TellsEdges mbox.content (Err why) × LeavesSame {T = Unit {0}} mbox (Err why) mbox' → IsStoreFault why fault → RefusesEntry mbox file
    rows uid text fault mbox' file
not_measured _ _ _ _ _ _ refused.Missing _ is fault_is = rw fault_is (is.0, is.1, refl)
not_measured _ _ _ _ _ _ refused.Refused _ is fault_is = rw fault_is (inl (is.1, inl refl))
not_measured _ _ _ _ _ _ _ _ never _ = absurd never.0

-- the entry of a text was refused, and nothing of it is there
abbrev pub Refuses : Stored → List ℕ → StoreFault → Stored → Type 0
Refuses old text why new = SeesEntry {T = Unit {0}} old.content text (Err (Nothing why)) new.content
    × LeavesSame {T = Unit {0}} old (Err why) new

-- it was refused, none of it is there, and its intent was closed
pub entry_refused : (mbox mid mbox' file file' : Stored) (rows : List Row) (uid text : List ℕ) (edges : Edges)
    (why : StoreFault) (fault : Fault) → TellsEdges mbox.content (Ok edges) × (mid ≡ mbox)
    → IsTakenBack mbox file rows uid text file' → Refuses mid text why mbox'
    → IsStoreFault why fault → RefusesEntry mbox file rows uid text fault mbox' file'
entry_refused mbox mid mbox' file file' rows uid text edges why fault measures back appends fault_is =
    by why (subst (λ (m : Stored). Refuses m text why mbox') measures.1 appends) fault_is
  where
    by : (w : StoreFault) → Refuses mbox text w mbox' → IsStoreFault w fault
        → RefusesEntry mbox file rows uid text fault mbox' file'
    by refused.Missing (sees, same) f = none_some mbox.content back.0 sees.0 back.1
    by refused.Refused (_, same) f = rw f (inl (same, inr back))
    by refused.NotMbox (sees, same) f = rw f (sees.0, same, back)
    by refused.NoMemory (_, same) f = rw f (same, inr back)

-- ---- one text is taken

appended_one : (mbox mbox' : Stored) (was text : List ℕ) → mbox.content ≡ Some was
    → mbox' ≡ holding mbox (was ++ entry_of text) → Appended mbox mbox' (text ∷ [])
appended_one _ _ _ _ some is = record { content = rw (is, some, append-nil); failures = rw is }

-- the lines of a body end in LF
pub text_whole : (lines : List (List ℕ)) → IsWhole (text_of lines)
text_whole [] = inl refl
text_whole (line ∷ lines) = elim (text_whole lines) [
  | inl none ↦ inr (unstuffed line, rw none (append-nil (lf_line line)))
  | inr (front, is) ↦ inr (lf_line line ++ front, rw is (sym (append_assoc (lf_line line) front (10 ∷ []))))
]

pub body_whole : (body : Option (List (List ℕ))) → IsWhole (body_text body)
body_whole None = inl refl
body_whole (Some lines) = text_whole lines

-- the text wasn't read whole
pub not_held : {n : ℕ} {uid : List ℕ} {a b : Place} {store : Stores} {file : Stored} {rows : List Row}
    {lines : List ReportLine} {cut : Cut} → TakesText n a (Err cut) b
    → Stops AsEntries (stores n uid) (scene a store file rows lines) cut (scene b store file rows lines)
not_held {n} (none, inl broke) =
    inl (record { none = none; turn = retr n; takes = refl; broke = broke; store = refl; file = refl; rows = refl; lines = refl })
not_held {n} {uid} (none, inr (wants, (rest, text, fetching))) =
    inr (inl (inl (record {
      none = none;
      number = n;
      uid = uid;
      rest = rest;
      text = text;
      is = refl;
      wants =
          wants;
      fetching = fetching;
      store = refl;
      file = refl;
      rows = refl;
      lines = refl;
    })))

module _ {n : ℕ} {uid : List ℕ} {a b : Place} {mbox mbox' file file' : Stored} {lines lines' : List ReportLine} where
  -- it wasn't appended
  pub text_refused : {rows rows' : List Row} (text : List ℕ) (fault : Fault) → Fetched (retr n) a text b
      → RefusesEntry mbox file rows uid text fault mbox' file' → rows' ≡ rows → lines' ≡ lines
      → (e : NoEntry (stores n uid) (scene a (in_mbox mbox) file rows lines)
      (scene b (in_mbox mbox') file' rows' lines') (cut_of fault None)) × (e.uid ≡ uid) × (body_text e.reply.body ≡ text)
  text_refused _ _ (reply, talked, is) refuses rows_are told = (
    record {
      none = refl;
      number = n;
      uid = uid;
      reply = reply;
      is = refl;
      talked = talked;
      refuses = rw is at refuses;
      rows = rows_are;
      lines = told;
    },
    refl,
    sym is,
  )

  -- its entry was appended, and the mark wasn't saved
  pub entry_not_saved : {rows' : List Row} (octets : ℕ) (text : List ℕ) (mid : Stored) (seen seen' : Loaded)
      (fault : Fault) → Fetched (retr n) a text b → octets ≡ length text
      → AppendsText mbox file seen uid text (Ok tt) mbox' mid seen' → seen'.rows ≡ seen.rows
      → Saves mid (record_state_in seen') (none_open (marked seen'.rows uid)) (Err fault) file' → lines' ≡ lines ++ Delivered n octets ∷ []
      → (u : EntryNotSaved (stores n uid) (scene a (in_mbox mbox) file seen.rows lines)
      (scene b (in_mbox mbox') file' rows' lines') (cut_of fault None)) × (u.uid ≡ uid) × (body_text u.reply.body ≡ text)
  entry_not_saved octets text mid seen seen' fault (reply, talked, is) long (was, goes_on, now, opened, saves) rows_are marks told =
      let held_is : record_state_in seen' ≡ with_open seen.rows (intent_of was uid text) = rw (rows_are, opened) in (
        record {
          none = refl;
          number = n;
          uid = uid;
          reply = reply;
          is = refl;
          talked = talked;
          stored = rw (← is) (appended_one mbox mbox' was text goes_on.0 now);
          saves = subst (λ (t : List ℕ). MarksEntry mbox file seen.rows uid t fault file') is (
            was,
            goes_on.0,
            mid,
            saves,
            subst (λ (h : RecordState). Saves mid h (none_open (marked h.rows uid)) (Err fault) file') held_is marks,
          );
          lines = simp (told, long, is);
        },
        refl,
        sym is,
      )

  -- it was appended and marked
  pub entry_stored : {rows' : List Row} (octets : ℕ) (text : List ℕ) (mid : Stored) (seen seen' : Loaded)
      → Fetched (retr n) a text b → octets ≡ length text
      → AppendsText mbox file seen uid text (Ok tt) mbox' mid seen' → seen'.rows ≡ seen.rows → rows' ≡ marked seen'.rows uid
      → Saves mid (record_state_in seen') (none_open (marked seen'.rows uid)) (Ok tt) file' → lines' ≡ lines ++ Delivered n octets ∷ []
      → TakesTask AsEntries (stores n uid) (scene a (in_mbox mbox) file seen.rows lines) (Ok tt)
      (scene b (in_mbox mbox') file' rows' lines')
  entry_stored _ text _ _ _ (reply, talked, is) long (was, goes_on, now, opened, saves) rows_are mark marks told = (
    reply ∷ [],
    record {
      talked = talked;
      each = (talked.good, tt);
      stored = rw (← is) (appended_one _ _ _ _ goes_on.0 now);
      rows = rw rows_are at mark;
      saved = λ stood. rw mark (marks.1 (rw (rows_are, opened) (saves.1 stood)));
      file_count = omega (arith, saves.0, marks.0);
      lines = simp (told, long, is);
    },
  )
