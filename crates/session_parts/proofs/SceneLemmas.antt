-- How a record is read and what saving it leaves, how what single tasks do makes what lists of tasks do, and what a list leaves that
-- stopped.
use Rattle.std.{
  proofs.Common.{◌≡◌, ◌≢◌, ◌⊎◌, inl, inr, ℕ, Bool, false, List, [], ◌∷◌, ◌++◌, Option, None, Some, Result, Ok, Err, ◌≤◌, refl, sym, ap},
  proofs.Common.{arith, ◌∙◌, OnOk, ◌==◌, ◌||◌, true, if◌then◌else◌, length, append-nil, subst, append_assoc, option_map, take},
  proofs.Common.length-append,
  proofs.lemmas.{Bool.{true≢false, or_parts}, Grind.flat_map-append, List.{append-nil, map-append}},
  proofs.lemmas.Iterator.Adapters.option_map_id,
  proofs.Math.Seq.take-append_seam,
  specs.List.{flat_map, AllByRecursion},
}
use Rattle.fetch_record.specs.{
  Record.{Row, Intent, RecordState, Loaded, none_open, IsIntent, has_row, marked, marked_all},
  RecordFile.{Version, One, Two, header, intent_line},
  RecordMeaning.{Rows, Means, has_bytes, with_taken, Fault as Faulty},
  RecordGrowth.{Updates, Grows, AppendedCounts, CutIsIgnored, taken_all},
  Intents.{has_intent, is_older, closed_rows},
  declared.seen.SeenFault.{SeenFault, TheVariants.NoMemory as WantsMemory},
}
use Rattle.mail_terms.proofs.ListLemmas.{all_append}
use Rattle.mail_store.proofs.DiskLemmas.{Appends, Cuts}
use Rattle.mail_store.specs.{
  FlatFile.Stored,
  declared.fault.StoreFault.{StoreFault},
  Mboxrd.entry_of,
  FileName.mail_file,
  Maildir.{Maildir, File},
}
use Rattle.session_parts.{
  specs.{declared.fault.{Fault.{Fault, TheVariants.{SeenRefused, NoMemory, BadSeen}}, Cut.Cut}, Store.{Gained, Appended, Brings}},
  specs.Record.{bytes_in, record_state, Keeps, Steady, FileReadAs, StandsTill, Saves, Merges, TakesBack, LineOf},
  specs.Record.{record_state_in, ReadsRecord, IsLineFault},
  specs.Task.{Task, Done, files_in, texts_in, tasks_of, turns_of, replies_of, done_texts, stores, ids_in, marked_ids},
  specs.{Target.{Target, AsFiles, AsEntries, Stores}, Scene.{Scene, Went, AllWent, Fell, Stops, NoFile, FileNotSaved}},
  specs.Laws.{CameWhole, ExtraIs, MarksAre, CutShort, StoppingCutsShort, UnsavedFilesKeep},
  proofs.TalkLemmas.{talked_none, stopped_first},
}
use Rattle.pop3_client.specs.{Conversation.{TurnsJoin, Talked, ConversationsArePaced}, Turns.{Turn, retr}}
use Rattle.pop3_wire.specs.Reading.{WholeReply}

-- ---- what saving the record leaves

bytes_begin : (version : Version) (rest : List ℕ) → [] ≢ header version ++ rest
bytes_begin One _ is = true≢false (cc)
bytes_begin Two _ is = true≢false (cc)

-- an empty file stands for no row and no intent
empty_means : (version : Version) (rows : List Row) (intent : Option Intent) (torn : Bool)
    → Means [] (Rows version rows intent torn) → (rows ≡ []) × (intent ≡ None)
empty_means _ _ _ _ (inl is) = (cc is.1, cc is.1)
empty_means _ _ _ _ (inr (inl other)) = absurd (other.0 refl)
empty_means _ _ _ _ (inr (inr lines)) = absurd (bytes_begin _ _ lines.cut.whole)

means_keeps : (content : Option (List ℕ)) (version : Version) (state : RecordState) (torn : Bool)
    → Means (bytes_in content) (Rows version state.rows state.intent torn) → Keeps content state
means_keeps None version state torn means = empty_means _ _ _ _ means
means_keeps (Some _) version _ torn means = (version, torn, means)

pub read_keeps : (content : Option (List ℕ)) (loaded : Loaded) → FileReadAs content loaded → Keeps content (record_state_in loaded)
read_keeps content loaded is = means_keeps _ _ _ _ is.means

pub steady_keeps : (content : Option (List ℕ)) (state : RecordState) → Steady content state → Keeps content state
steady_keeps content state steady = means_keeps _ _ _ _ steady

-- a record that isn't stale is of version 2, isn't torn, and has no open intent
not_older : (version : Version) → is_older version ≡ false → version ≡ Two
not_older One is = absurd (true≢false is)
not_older Two _ = refl

no_intent : (intent : Option Intent) → has_intent intent ≡ false → intent ≡ None
no_intent None _ = refl
no_intent (Some _) is = absurd (true≢false is)

pub read_steady : (content : Option (List ℕ)) (loaded : Loaded) → FileReadAs content loaded → loaded.stale ≡ false
    → Steady content (none_open loaded.rows) × (loaded.intent ≡ None)
read_steady content loaded is fresh =
    let old = or_parts (is_older is.version) (is.torn || (has_intent loaded.intent || is.outgrown)) (sym is.stale ∙ fresh) in
    let torn = or_parts is.torn (has_intent loaded.intent || is.outgrown) old.1 in
    let closed : loaded.intent ≡ None = no_intent loaded.intent (or_parts (has_intent loaded.intent) is.outgrown torn.1).0 in
    (rw (not_older is.version old.0, closed, torn.0) at is.means, closed)

pub closed_state : (loaded : Loaded) → loaded.intent ≡ None → none_open loaded.rows ≡ record_state_in loaded
closed_state loaded closed = cc

-- an intent that is ended with no entry leaves the rows
pub not_whole : (rows : List Row) (intent : Option Intent) → closed_rows false rows intent ≡ rows
not_whole _ None = refl
not_whole _ (Some _) = refl

pub is_there : (content : Option (List ℕ)) → bytes_in content ≢ [] → content ≡ Some (bytes_in content)
is_there None some = absurd (some refl)
is_there (Some bytes) some = refl

-- ---- a file that is cut

-- what stands for the rows at the front of a file is cut off from the rest
pub till_front : (stored : Stored) (size : ℕ) (rows : List Row) (bytes : List ℕ) → StandsTill stored size rows
    → stored.content ≡ Some bytes → Steady (Some (take size bytes)) (none_open rows)
till_front _ size rows _ till is = rw is at till.1

-- an open intent was closed in this way
pub taken_back : (old new : Stored) (size : ℕ) (was : RecordState) (r : Result (Unit {0}) StoreFault) → StandsTill old size was.rows
    → Cuts old size r new → TakesBack old was new
taken_back old new size was (Ok done) till cuts =
    let (whole, there, _) = till.0 in
    let stands = till_front old size was.rows whole till there in
    inl (rw (cuts whole there) (refl, λ stood. stands))
taken_back old new size was (Err fault) till cuts =
    let (whole, there, _) = till.0 in
    let stands = till_front old size was.rows whole till there in
    elim (cuts whole there) [
      | inl is ↦ inr (rw is (refl, λ stood. inl (steady_keeps old.content was stood)))
      | inr is ↦ inr (rw is (refl, λ stood. inr (Two, false, stands)))
    ]

-- what was appended to a file
pub stands_till : (old new : Stored) (size : ℕ) (line : List ℕ) (rows : List Row) → bytes_in new.content ≢ []
    → size ≡ length (bytes_in old.content)
    → bytes_in new.content ≡ bytes_in old.content ++ line → Steady old.content (none_open rows) → StandsTill new size rows
stands_till old new size line rows some long is stood =
    let was = bytes_in old.content in
    let cut : take size (bytes_in new.content) ≡ was = ap (take size) is ∙ ap (λ (n : ℕ). take n (was ++ line)) long
    ∙ take-append_seam was line in (
      (bytes_in new.content, is_there new.content some, omega (arith, long, ap length is, length-append was line)),
      subst (λ (bytes : List ℕ). Means bytes (Rows Two rows None false)) (sym cut) stood,
    )

pub saves_merges : (old new : Stored) (was now : RecordState) (r : Result (Unit {0}) Fault) → Steady old.content was
    → Saves old was now r new → Merges old was now r new
saves_merges _ _ _ _ (Ok _) stood is = (is.0, is.1 stood)
saves_merges _ _ _ _ (Err SeenRefused) stood is = (is.0, is.1 stood)
saves_merges _ _ _ _ (Err NoMemory) _ is = is
saves_merges _ _ _ _ (Err _) _ never = absurd never

-- ---- a group or an intent's line appended

-- the record becomes another by what is appended
abbrev pub GrowsBy : List ℕ → RecordState → RecordState → Type 0
GrowsBy added was now = Grows was.rows was.intent added now.rows now.intent

pub grown : AppendedCounts → (old new : Stored) (added : List ℕ) (was now : RecordState) → bytes_in old.content ≢ [] → GrowsBy added was now
    → Appends {T = Unit {0}} old added (Ok tt) new → Saves old was now (Ok tt) new
grown counts old new added was now some grows appends =
    rw (appends (bytes_in old.content) (is_there old.content some))
    (refl, λ stood. counts (bytes_in old.content) added was.rows now.rows was.intent now.intent some stood grows)

kept_front : AppendedCounts → CutIsIgnored → (bytes added front rest : List ℕ) (was now : RecordState) → bytes ≢ []
    → GrowsBy added was now → Means bytes (Rows Two was.rows was.intent false) → added ≡ front ++ rest
    → Keeps (Some (bytes ++ front)) was ⊎ Keeps (Some (bytes ++ front)) now
kept_front counts _ bytes added _ [] was now some grows stood split =
    inr (Two, false, rw (split, append-nil) at (counts bytes added was.rows now.rows was.intent now.intent some stood grows))
kept_front _ ignored bytes added front (byte ∷ rest) was now some grows stood split =
    inl (
      Two,
      has_bytes front,
      ignored bytes added front (byte ∷ rest) was.rows now.rows was.intent now.intent some stood grows split (λ none. true≢false (cc)),
    )

pub cut_short : AppendedCounts → CutIsIgnored
    → (old new : Stored) (added : List ℕ) (was now : RecordState) (fault : StoreFault) → bytes_in old.content ≢ [] → GrowsBy added was now
    → Appends {T = Unit {0}} old added (Err fault) new → Saves old was now (Err SeenRefused) new
cut_short counts ignored old new added was now fault some grows appends =
    let cut = appends (bytes_in old.content) (is_there old.content some) in
    rw cut.3 (refl, λ stood. kept_front counts ignored (bytes_in old.content) added cut.0 cut.1 was now some grows stood cut.2)

-- ---- a mark, and a listing

-- a group's row leaves no rows empty
taken_by : (has : Bool) (rows : List Row) (row : Row) → rows ≢ [] → (if has then marked rows row.uid else (rows ++ row ∷ [])) ≢ []
taken_by has [] row some = absurd (some refl)
taken_by true (first ∷ rows) row some = λ none. cc
taken_by false (first ∷ rows) row some = λ none. cc

still_some : (rows group : List Row) → rows ≢ [] → taken_all rows group ≢ []
still_some rows [] some = some
still_some rows (row ∷ group) some = still_some (with_taken rows row) group (taken_by (has_row rows row.uid) rows row some)

-- if an id's mark gives a group, the file has bytes
pub mark_begun : (content : Option (List ℕ)) (was now : List Row) (before after : Option Intent) (uid group : List ℕ)
    → Steady content (record_state was before) → now ≡ marked was uid → Updates was before group now after → group ≢ []
    → bytes_in content ≢ []
mark_begun content was now before after uid group steady marks (inl same) some none = some same.0
mark_begun content was now before after uid group steady marks (inr (rows, is, bytes, grown', closed)) some none =
    let no_row : was ≡ [] = (empty_means Two was before false (rw none at steady)).0 in
    by_rows rows is.count.0 (sym grown' ∙ marks ∙ ap (λ (r : List Row). marked r uid) no_row) no_row
  where
    by_rows : (rows : List Row) → 1 ≤ length rows → taken_all was rows ≡ [] → was ≡ [] → ⊥
    by_rows [] count nothing no_row = absurd (omega (arith, count))
    by_rows (row ∷ more) count nothing no_row = still_some (row ∷ []) more (λ e. cc) (rw no_row at nothing)

-- if an id has a row, the file has bytes
pub row_begun : (content : Option (List ℕ)) (rows : List Row) (intent : Option Intent) (uid : List ℕ)
    → Steady content (record_state rows intent) → has_row rows uid ≡ true → bytes_in content ≢ []
row_begun _ rows intent uid steady has none =
    let no_row : rows ≡ [] = (empty_means _ _ _ _ (rw none at steady)).0 in
    true≢false (cc)

-- an intent's line opens it
pub opens : (rows : List Row) (intent : Intent) (line : List ℕ) → IsIntent intent → has_row rows intent.uid ≡ true
    → line ≡ intent_line intent → Grows rows None line rows (Some intent)
opens _ intent _ is has line_is =
    inr (record { intent = intent; is_one = is; row = has; closed = refl; bytes_are = line_is; same = refl; opened = refl })

-- ---- why a record isn't read

pub read_fault : (old new : Stored) (loaded : Loaded) (why : SeenFault) (fault : Fault) → new ≡ old
    → (why ≢ WantsMemory → Means (bytes_in old.content) (Faulty why)) → IsLineFault why fault → ReadsRecord old loaded (Err fault) new
read_fault _ _ _ why (BadSeen line) same is at = (why, is (λ none. subst (λ (w : SeenFault). LineOf w line) none at), at, same)
read_fault _ _ _ _ NoMemory same _ at = same
read_fault _ _ _ _ _ _ _ at = absurd at

-- ---- lists of tasks

pub gained_none : (m : Maildir) → Gained m m []
gained_none m = record {
  came = sym (append-nil m.files);
  taken = refl;
  odd = refl;
  there = refl;
  none_begun =
      λ none_begun. none_begun;
  failures = omega arith;
}

pub marked_on : (rows : List Row) (xs ys : List (List ℕ)) → marked_all rows (xs ++ ys) ≡ marked_all (marked_all rows xs) ys
marked_on rows [] ys = refl
marked_on rows (x ∷ xs) ys = marked_on (marked rows x) xs ys

pub all_weaker : {A : Type 0} (P Q : A → Type 0) (xs : List A) → ((x : A) → P x → Q x) → AllByRecursion P xs → AllByRecursion Q xs
all_weaker P Q [] weaker all = tt
all_weaker P Q (x ∷ xs) weaker all = (weaker x all.0, all_weaker P Q xs weaker all.1)

-- ---- what texts bring

content_on : (content : Option (List ℕ)) (xs ys : List (List ℕ))
    → option_map (λ (was : List ℕ). was ++ flat_map entry_of ys) (option_map (λ (was : List ℕ). was ++ flat_map entry_of xs) content)
    ≡ option_map (λ (was : List ℕ). was ++ flat_map entry_of (xs ++ ys)) content
content_on None _ _ = refl
content_on (Some _) _ _ = simp (flat_map-append, append_assoc)

nothing_appended : (mbox : Stored) → Appended mbox mbox []
nothing_appended _ = record { content = simp (append-nil, option_map_id); failures = refl }

pub brings_none : (target : Target) (s : Stores) → Brings target [] s s
brings_none (AsFiles _) s = gained_none _
brings_none AsEntries s = nothing_appended _

brings_on : (target : Target) (xs ys : List Done) (a b c : Stores) → Brings target xs a b → Brings target ys b c
    → Brings target (xs ++ ys) a c
brings_on (AsFiles _) _ _ a b c first second =
    simp flat_map-append (record {
      came = simp (second.came, first.came, append_assoc);
      taken = cc;
      odd = cc;
      there = cc;
      none_begun = λ none_begun. second.none_begun (first.none_begun none_begun);
      failures = omega (arith, first.failures, second.failures);
    })
brings_on AsEntries xs ys a b c first second = simp flat_map-append (record {
  content = cc (content_on a.mbox.content (done_texts xs) (done_texts ys));
  failures = cc;
})

-- a task that stored nothing
pub brings_same : (target : Target) (done : Done) (s : Stores)
    → ((account : List ℕ) → files_in account done.task done.replies ≡ []) → texts_in done.task done.replies ≡ []
    → Brings target (done ∷ []) s s
brings_same (AsFiles _) _ s files _ = rw files (gained_none _)
brings_same AsEntries _ s _ texts = rw texts (nothing_appended _)

pub went_none : (target : Target) (s : Scene) → Went target [] s s
went_none target s =
    record {
      talked = talked_none _;
      each = tt;
      stored = brings_none _ _;
      rows = refl;
      saved =
          λ stands. stands;
      file_count = omega arith;
      lines = sym (append-nil s.lines);
    }

pub went_on : TurnsJoin → (target : Target) (xs ys : List Done) (a b c : Scene) → Went target xs a b
    → Went target ys b c → Went target (xs ++ ys) a c
went_on joining target xs ys a b c first second = record {
  talked = simp flat_map-append (joining.on (turns_of xs) (turns_of ys) (replies_of xs) (replies_of ys) a.place b.place
      c.place first.talked second.talked);
  each = all_append _ xs ys first.each second.each;
  stored = brings_on _ xs ys _ _ _ first.stored second.stored;
  rows = simp (second.rows, first.rows, flat_map-append, marked_on);
  saved = λ stands. second.saved (first.saved stands);
  file_count = omega (arith, first.file_count, second.file_count);
  lines = simp (second.lines, first.lines, flat_map-append, append_assoc);
}

unfoldable pub fell_first : (target : Target) (task : Task) (later : List Task) (a new : Scene) (f : Cut)
    → Stops target task a f new → Fell target (task ∷ later) a f new
fell_first target task later a _ f stops =
    record { dones = []; next = task; later = later; mid = a; split = refl; went = went_none target a; stops = stops }

unfoldable pub fell_on : TurnsJoin → (target : Target) (xs ys : List Task) (a b new : Scene) (f : Cut)
    → AllWent target xs a b → Fell target ys b f new → Fell target (xs ++ ys) a f new
fell_on joining target _ _ a b _ f first second = record {
  dones = first.dones ++ second.dones;
  next = second.next;
  later = second.later;
  mid = second.mid;
  split = simp (first.all, second.split, map-append, append_assoc);
  went = went_on joining target first.dones second.dones a b second.mid first.went second.went;
  stops = second.stops;
}

unfoldable pub fell_before : (target : Target) (xs ys : List Task) (a new : Scene) (f : Cut) → Fell target xs a f new
    → Fell target (xs ++ ys) a f new
fell_before _ _ ys a _ f fell = record {
  dones = fell.dones;
  next = fell.next;
  later = fell.later ++ ys;
  mid = fell.mid;
  split = rw fell.split (append_assoc (tasks_of fell.dones) (fell.next ∷ fell.later) ys);
  went = fell.went;
  stops = fell.stops;
}

unfoldable pub all_none : (target : Target) (s : Scene) → AllWent target [] s s
all_none target s = record { dones = []; all = refl; went = went_none target s }

unfoldable pub all_on : TurnsJoin → (target : Target) (xs ys : List Task) (a b c : Scene) → AllWent target xs a b
    → AllWent target ys b c → AllWent target (xs ++ ys) a c
all_on joining target _ _ a b c first second = record {
  dones = first.dones ++ second.dones;
  all = simp (first.all, second.all, map-append);
  went = went_on joining target first.dones second.dones a b c first.went second.went;
}

pub on_any : {T E P : Type 0} (result : Result T E) → P → OnOk result P
on_any (Ok _) p = p
on_any (Err _) p = tt

-- what is known if all are sound, by what the calls of each did
pub all_sound : {W W' L D D' F F' P Q R S : Type 0} → (W → W' × L × P) → (D → D' × Q) → (F → F' × R) → (P → Q → R → S)
    → W → D → F → W' × D' × F' × L × S
all_sound link disk file did w d f =
    let l = link w in
    let s = disk d in
    let r = file f in
    (l.0, s.0, r.0, l.1, did l.2 s.1 r.1)

-- the same if one call used the store and the record's file
pub both_sound : {W W' L D D' F F' P Q S : Type 0} → (W → W' × L × P) → (D → F → D' × F' × Q) → (P → F → Q → S)
    → W → D → F → W' × D' × F' × L × S
both_sound link files did w d f =
    let l = link w in
    let s = files d f in
    (l.0, s.0, s.1, l.1, did l.2 f s.2)

-- what follows from what one call did, or from what is known if all are sound
pub and_so : {A P Q : Type 0} → A × P → (A → P → Q) → A × Q
and_so did words = (did.0, words did.0 did.1)

pub did_then : {A B C L P S : Type 0} → A × B × C × L × P → (P → S) → A × B × C × L × S
did_then did words = (did.0, did.1, did.2, did.3, words did.4)

-- the same if only the link was used
pub link_alone : {W W' L D F P : Type 0} → (W → W' × L × P) → W → D → F → W' × D × F × L × P
link_alone link w d f = let l = link w in (l.0, d, f, l.1, l.2)

-- ---- a list of tasks that stopped leaves what tasks that were cut short leave

stand : (turns : List Turn) (replies : List WholeReply) (old mid new : Scene) (more : List ℕ) → old.place.waiting ≡ []
    → Talked turns replies old.place mid.place → new.place.link.got ≡ mid.place.link.got ++ more → CameWhole replies old new
stand _ _ _ mid _ more none talked is =
    let heard = rw none at talked.heard in
    (mid.place.waiting ++ more, simp (is, talked.got, heard, append_assoc))

-- the record wasn't saved: why, and which record its file stands for
unsaved_why : (old : Stored) (was now : RecordState) (fault : Fault) (new : Stored) → Saves old was now (Err fault) new
    → (fault ≡ SeenRefused) ⊎ (fault ≡ NoMemory)
unsaved_why _ _ _ SeenRefused _ _ = inl refl
unsaved_why _ _ _ NoMemory _ _ = inr refl
unsaved_why _ _ _ _ _ never = absurd never

pub unsaved_keeps : UnsavedFilesKeep
unsaved_keeps _ _ _ SeenRefused _ is = is.1
unsaved_keeps old was _ NoMemory _ is = λ stood. inl (rw is (steady_keeps _ _ stood))
unsaved_keeps _ _ _ _ _ never = absurd never

module _ (account : List ℕ) (tasks : List Task) (old new : Scene) (cut : Cut)
    (fell : Fell (AsFiles account) tasks old cut new) (none : old.place.waiting ≡ [])
    (stood : Steady old.file.content (none_open old.rows)) where
  -- nothing was marked
  short_unmarked : (more : List ℕ) → new.place.link.got ≡ fell.mid.place.link.got ++ more → new.file ≡ fell.mid.file
      → new.lines ≡ fell.mid.lines → (extra : List File) → new.store.maildir.files ≡ fell.mid.store.maildir.files ++ extra
      → ExtraIs account fell.dones (fell.next ∷ fell.later) old cut.fault new extra → CutShort account tasks old cut.fault new
  short_unmarked more got file lines extra came extra_is = record {
    taken = fell.dones;
    next = fell.next ∷ fell.later;
    extra = extra;
    marks = marked_ids fell.dones;
    split = fell.split;
    good = fell.went.talked.good;
    got = stand (turns_of fell.dones) (replies_of fell.dones) old fell.mid new more none fell.went.talked got;
    told = lines ∙ fell.went.lines;
    files = simp (came, fell.went.stored.came, append_assoc);
    extra_is = extra_is;
    marks_are = inl refl;
    record_is = rw file (rw fell.went.rows at (steady_keeps fell.mid.file.content (none_open fell.mid.rows) (fell.went.saved stood)));
  }

  short_not_stored : TurnsJoin → NoFile account fell.next fell.mid new cut → CutShort account tasks old cut.fault new
  short_not_stored joining refused =
      let under = refused.fetching.under in
      let opened = refused.fetching.opened in
      let short = short_unmarked (opened.gained ++ under.gained) (simp (under.drew.got, opened.got, append_assoc))
      refused.file refused.lines in
      elim refused.refuses [
        | inl missing ↦ short [] (rw (missing.2, append-nil)) (inl refl)
        | inr (is, inl same) ↦ short [] (rw (same, append-nil)) (inl refl)
        | inr (is, inr (done, (is_named, there))) ↦ (
            let came = refused.whole done in
            let talked = joining.on (turns_of fell.dones) (retr refused.number ∷ []) (replies_of fell.dones)
            (came.0 ∷ []) old.place fell.mid.place new.place fell.went.talked came.1 in
            let got = stand (turns_of fell.dones ++ retr refused.number ∷ []) (replies_of fell.dones ++ came.0 ∷ []) old
            new new [] none talked (sym (append-nil new.place.link.got)) in
            short (record (mail_file account refused.uid refused.text) { is_named = is_named } ∷ []) (rw there)
            (inr (is, (refused.number, refused.uid, fell.later, came.0, rw refused.is, (is_named, rw came.2), got)))
            )
      ]

  short_not_saved : TurnsJoin → FileNotSaved account fell.next fell.mid new cut → CutShort account tasks old cut.fault new
  short_not_saved joining refused =
      elim (unsaved_keeps fell.mid.file (none_open fell.mid.rows) (none_open (marked fell.mid.rows refused.uid))
      cut.fault new.file refused.saves (fell.went.saved stood)) [
        | inl was ↦ with_marks (marked_ids fell.dones) (inr (
          unsaved_why fell.mid.file (none_open fell.mid.rows) (none_open (marked fell.mid.rows refused.uid))
              cut.fault new.file refused.saves,
          (
            refused.uid,
            flat_map-append (λ (d : Done). ids_in d.task) fell.dones (last ∷ []),
          ),
        )) (rw fell.went.rows at was)
        | inr is ↦ with_marks (marked_ids (fell.dones ++ last ∷ [])) (inl refl)
            (simp (flat_map-append, marked_on) (rw fell.went.rows at is))
      ]
    where
      last : Done
      last = record { task = stores refused.number refused.uid; replies = refused.reply ∷ [] }

      talked : Talked (turns_of (fell.dones ++ last ∷ [])) (replies_of (fell.dones ++ last ∷ [])) old.place new.place
      talked = simp flat_map-append (joining.on (turns_of fell.dones) (retr refused.number ∷ []) (replies_of fell.dones)
          (refused.reply ∷ []) old.place fell.mid.place new.place fell.went.talked refused.talked)

      with_marks : (marks : List (List ℕ)) → MarksAre (marked_ids (fell.dones ++ last ∷ [])) cut.fault marks
          → Keeps new.file.content (none_open (marked_all old.rows marks)) → CutShort account tasks old cut.fault new
      with_marks marks are stands = record {
        taken = fell.dones ++ last ∷ [];
        next = fell.later;
        extra = [];
        marks = marks;
        split = simp (fell.split, refused.is, map-append, append_assoc);
        good = talked.good;
        got = stand (turns_of (fell.dones ++ last ∷ [])) (replies_of (fell.dones ++ last ∷ [])) old new new [] none
            talked (sym (append-nil new.place.link.got));
        told = simp (refused.lines, fell.went.lines, flat_map-append, append_assoc);
        files = simp (refused.stored.came, fell.went.stored.came, flat_map-append, append-nil, append_assoc);
        extra_is = inl refl;
        marks_are = are;
        record_is = stands;
      }

pub stopping_cuts_short : ConversationsArePaced → TurnsJoin → StoppingCutsShort
stopping_cuts_short paced joining account tasks old new cut fell none stood =
    elim fell.stops [
      | inl broken ↦ (
          let p = paced (broken.turn ∷ []) fell.mid.place new.place (Err broken.broke.0)
          (stopped_first _ [] fell.mid.place new.place broken.broke.0 broken.broke.2) in
          short_unmarked _ tasks old new _ fell none stood p.gained p.got broken.file broken.lines []
          (rw (broken.store, append-nil)) (inl refl)
          )
      | inr (inl refused) ↦ short_not_stored account tasks old new cut fell none stood joining refused
      | inr (inr refused) ↦ short_not_saved account tasks old new cut fell none stood joining refused
    ]
