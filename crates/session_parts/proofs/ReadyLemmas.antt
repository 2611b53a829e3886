-- What is planned and which ids stay fresh, what a session has ready, or why it isn't ready, and what of it is durable.
use Rattle.mail_store.specs.Devices.{stored_in}
use Rattle.std.{
  proofs.Common.{◌≡◌, ◌≢◌, ◌&&◌, Some, inl, inr, ◌<◌, ◌+◌, ℕ, suc, Bool, true, false, List, [], ◌∷◌, ◌++◌, drop, get_or, length, refl, sym},
  proofs.Common.{ap, ◌∙◌, arith, append_assoc, ◌⊎◌, ◌||◌, bytes_eq, drop-cons, map, take, Option, Ok, subst, HoldsAt, Result, Err, All},
  proofs.Common.{IfOk, ⊎_elim, None},
  proofs.lemmas.{Bool.{cases_Bool, false_from_ne_true, not-true, true≢false, or_parts}, Grind.flat_map-append, Slice.Eq.bytes_eq-Decides},
  proofs.lemmas.List.{Elements.recursion_from_All, Folds.{list_any-append, list_any_at}, map-append, take_more, length-map},
  proofs.lemmas.List.FromFn.length-enumerate_from,
  proofs.Math.Bool.{and-false, or-true},
  specs.List.AllByRecursion,
}
use Rattle.mail_terms.{specs.{UniqueId.IsLegalId, Listing.{Item, has_item, is_flagged, numbered}}, proofs.ListLemmas.all_append}
use Rattle.fetch_rules.specs.{
  declared.plans.Step.Step,
  Laws.{FetchesAsked, FetchesFirsts},
  Plan.{IsQuiet, fetches, planned, step_of},
  Wanted.none_odd,
}
use Rattle.mail_store.{
  proofs.MaildirLemmas.none_taken,
  specs.{Durable.MayLeave, Power.LeavesNoMore, Maildir.{File, Maildir, WereTaken, with_file}, FlatFile.{Stored, holding}},
  specs.declared.{fault.StoreFault.StoreFault, maildir.disk.MaildirDisk.Ghosts as DiskGhosts, file.flat_file.FlatFile.Ghosts as FileGhosts},
  specs.{FileName.{mail_file, sized_file, stem_of, is_held, IsAccountText}, Held.{AreById, flags_asked, flags_of, flags_sought}},
}
use Rattle.session_parts.{
  specs.{Task.{Task, ids_ahead, AreFresh, fetching, deleting, tasks_in, tasks_planned}, Store.MayGain, Mbox.{AsksMbox, IsStoreFault}},
  specs.declared.{work.Store.{Store, TheVariants.{Maildir as InMaildir, Mboxrd as InMbox}}, readiness.{Found.Found, Ready.Ready}},
  specs.declared.fault.Fault.{Fault, TheVariants.{BadSeen, NoMemory, SeenRefused, StoreRefused}},
  specs.Target.{held_flags, stores_of, target_of, Stores, in_maildir, kind_of, with_maildir, AfterTakingIn, AsFiles, Target, AsEntries},
  specs.Target.{closed_file, closed_rows_in, Kind, Files, Entries, MayBeOdd, in_mbox, mbox_of, odd_in},
  specs.Durable.{IsSafeFile, IsSafeStore, DurableKept, LeavesMerged, LeavesSettled, LeavesStore, ReadiesDurably, DurableReady, UnlessQuiet},
  specs.Durable.{DurableUnready, may_leave_in},
  specs.Readiness.{AreDurable, FindsIn, are_undelivered, flags_found, IsMergedAtMost, CausesUnready, FindsRefused, MboxUnready, merged_in},
  specs.Readiness.{SettlesStore, UnreadyCause, AreAsHeld, ChecksStore, HasPlan, IsAnew, IsIdle, IsFileKept, Readies, ChecksIdle},
  specs.Record.{FileReadAs, IsSecured, ReadsRecord, Keeps, Merges, Steady, record_state_in},
  proofs.{SceneLemmas.{all_weaker, read_keeps, steady_keeps, not_whole}, TextLemmas.{asks_refused, held_same}},
}
use Rattle.fetch_record.specs.{
  Record.{Loaded, Row, is_delivered, Intent, RecordState, has_row, marked, none_open, merged, IsRecord},
  RecordFile.file_of,
  Intents.closed_rows,
}
use Rattle.rc_file.specs.declared.settings.Settings.{Settings}
use Rattle.session_parts.specs.declared.fault.Why.TheVariants as why
use Rattle.mail_store.specs.declared.fault.StoreFault.TheVariants as refused

-- ---- which ids stay fresh while others are stored

-- a file under the name of an id makes that id held, and no other
abbrev pub OneMore : Type 0
OneMore = (account a b content : List ℕ) (maildir : Maildir) → IsAccountText account → IsLegalId a → IsLegalId b
    → is_held account (with_file maildir (mail_file account a content)) b ≡ (is_held account maildir b || bytes_eq b a)

-- whether an id is held doesn't depend on what is durable
by_names : (account uid : List ℕ) (maildir : Maildir) (f : File) (is_named : Bool)
    → is_held account (with_file maildir (record f { is_named = is_named })) uid ≡ is_held account (with_file maildir f) uid
by_names account uid maildir f is_named =
    list_any-append _ maildir.files (record f { is_named = is_named } ∷ []) ∙ sym (list_any-append _ maildir.files (f ∷ []))

still_free : OneMore → (account uid other : List ℕ) (a b : Maildir) → IsAccountText account → IsLegalId uid
    → IsLegalId other → other ≢ uid → MayGain (stem_of account uid) a b → is_held account a other ≡ false → is_held account b other ≡ false
still_free law account uid other a b text legal legal' apart grows free =
    elim grows.came [
      | inl same ↦ rw same free
      | inr (content, is_named, more) ↦ rw more (by_names account other a (sized_file (stem_of account uid) content) is_named
          ∙ law account uid other content a text legal legal' ∙ ap (λ (k : Bool). k || bytes_eq other uid) free
          ∙ false_from_ne_true (bytes_eq other uid) (λ same. apart ((bytes_eq-Decides other uid).0 same)))
    ]

pub fresh_grows : OneMore → (account uid : List ℕ) (uids : List (List ℕ)) (a b : Maildir) → IsAccountText account
    → IsLegalId uid → AllByRecursion (λ (other : List ℕ). other ≢ uid) uids
    → MayGain (stem_of account uid) a b → AreFresh account a uids → AreFresh account b uids
fresh_grows law account uid [] a b text legal apart grows fresh = tt
fresh_grows law account uid (x ∷ xs) a b text legal apart grows fresh = (
  fresh.0,
  still_free law account uid x a b text legal fresh.0 apart.0 grows fresh.1,
  fresh.2,
  fresh_grows law account uid xs a b text legal apart.1 grows fresh.3,
)

no_ids_deleting : (delete : Bool) (number : ℕ) → ids_ahead (deleting delete number) ≡ []
no_ids_deleting true _ = refl
no_ids_deleting false _ = refl

pub ahead : (step : Step) (item : Item) (held : Bool) (later : List Task) → ids_ahead (tasks_in step item held ++ later)
    ≡ ids_ahead (fetching (fetches step) held step.number item.uid item.size) ++ ids_ahead later
ahead step item held later = simp (flat_map-append, no_ids_deleting, append_assoc)

pub empty_item : Item
empty_item = record { uid = []; size = 0 }

-- the i-th step, and the tasks after it
abbrev pub step_at : List Step → ℕ → Step
step_at steps i = get_or steps i (record { number = 0; skip = None; delete = false })

abbrev pub later_at : List Step → List Item → List Bool → ℕ → List Task
later_at steps items held i = tasks_planned (drop (i + 1) steps) (drop (i + 1) items) (drop (i + 1) held)

-- the tasks from the i-th step on; what is done first with its message is given
pub tasks_left : (steps : List Step) (items : List Item) (held : List Bool) (i : ℕ) (uid : List ℕ) (size : ℕ)
    (first : Task) → i < length items → length steps ≡ length items
    → length held ≡ length items → uid ≡ (get_or items i empty_item).uid → size ≡ (get_or items i empty_item).size
    → fetching (fetches (step_at steps i)) (get_or held i false) (step_at steps i).number uid size ≡ first ∷ []
    → tasks_planned (drop i steps) (drop i items) (drop i held)
    ≡ (first ∷ deleting (step_at steps i).delete (step_at steps i).number) ++ later_at steps items held i
tasks_left steps items held i uid size _ within all_steps all_flags u s is =
    let next : suc i ≡ i + 1 = omega arith in
    let of_steps = drop-cons steps i (record { number = 0; skip = None; delete = false }) (omega (arith, within, all_steps)) in
    let of_items = drop-cons items i empty_item within in
    let of_held = drop-cons held i false (omega (arith, within, all_flags)) in
    (λ j. tasks_planned (of_steps j) (of_items j) (of_held j))
    ∙ (λ j. tasks_in (step_at steps i) (record { uid = sym u j; size = sym s j }) (get_or held i false) ++ tasks_planned
    (drop (next j) steps) (drop (next j) items) (drop (next j) held))
    ∙ ap (λ (front : List Task). (front ++ deleting (step_at steps i).delete (step_at steps i).number) ++ later_at steps items held i) is

-- ---- each id is stored once, and only if it isn't held

has_item-last : (front : List Item) (item : Item) (uid : List ℕ) → has_item (front ++ item ∷ []) uid ≡ false
    → (has_item front uid ≡ false) × (uid ≢ item.uid)
has_item-last front item uid none =
    let parts = or_parts (has_item front uid) (bytes_eq uid item.uid || false)
    (sym (list_any-append (λ (i : Item). bytes_eq uid i.uid) front (item ∷ [])) ∙ none) in
    let apart = or_parts (bytes_eq uid item.uid) false parts.1 in
    (parts.0, λ same. true≢false (sym ((bytes_eq-Decides uid item.uid).1 same) ∙ apart.0))

pub fetched_all : (P : List ℕ → Type 0) (retrieve held : Bool) (number : ℕ) (uid : List ℕ) (size : ℕ)
    → (retrieve ≡ true → P uid) → AllByRecursion P (ids_ahead (fetching retrieve held number uid size))
fetched_all P true false _ _ _ p = (p refl, tt)
fetched_all P _ _ _ _ _ p = tt

no_ids_ahead : (front : List Item) (steps : List Step) (items : List Item) (held : List Bool) → FetchesFirsts front steps items
    → AllByRecursion (λ (id : List ℕ). has_item front id ≡ false) (ids_ahead (tasks_planned steps items held))
no_ids_ahead front (s ∷ ss) (i ∷ is) (h ∷ hs) firsts =
    rw (ahead s i h (tasks_planned ss is hs)) (all_append (λ (id : List ℕ). has_item front id ≡ false)
    (ids_ahead (fetching (fetches s) h s.number i.uid i.size)) (ids_ahead (tasks_planned ss is hs))
    (fetched_all (λ (id : List ℕ). has_item front id ≡ false) (fetches s) h s.number i.uid i.size firsts.0)
    (all_weaker (λ (id : List ℕ). has_item (front ++ i ∷ []) id ≡ false) (λ (id : List ℕ). has_item front id ≡ false)
    (ids_ahead (tasks_planned ss is hs)) (λ id none. (has_item-last front i id none).0) (no_ids_ahead (front ++ i ∷ []) ss is hs firsts.1)))
no_ids_ahead front _ _ _ firsts = tt

fresh_head : (account : List ℕ) (maildir : Maildir) (retrieve held : Bool) (number size : ℕ) (uid : List ℕ)
    (ids : List (List ℕ)) → IsLegalId uid → held ≡ is_held account maildir uid
    → AllByRecursion (λ (other : List ℕ). other ≢ uid) ids → AreFresh account maildir ids
    → AreFresh account maildir (ids_ahead (fetching retrieve held number uid size) ++ ids)
fresh_head _ _ true false _ _ _ _ legal is apart fresh = (legal, sym is, apart, fresh)
fresh_head _ _ _ _ _ _ _ _ _ is _ fresh = fresh

pub fresh_firsts : (account : List ℕ) (maildir : Maildir) (front : List Item) (steps : List Step) (items : List Item)
    → FetchesFirsts front steps items → AllByRecursion (λ (item : Item). IsLegalId item.uid) items
    → AreFresh account maildir (ids_ahead (tasks_planned steps items (flags_of account maildir items)))
fresh_firsts account maildir front (s ∷ ss) (i ∷ is) firsts legal =
    let later = tasks_planned ss is (flags_of account maildir is) in
    rw (ahead s i (is_held account maildir i.uid) later)
    (fresh_head account maildir (fetches s) (is_held account maildir i.uid) s.number i.size i.uid (ids_ahead later) legal.0 refl
    (all_weaker (λ (id : List ℕ). has_item (front ++ i ∷ []) id ≡ false) (λ (other : List ℕ). other ≢ i.uid) (ids_ahead later)
    (λ id none. (has_item-last front i id none).1) (no_ids_ahead (front ++ i ∷ []) ss is (flags_of account maildir is) firsts.1))
    (fresh_firsts account maildir (front ++ i ∷ []) ss is firsts.1 legal.1))
fresh_firsts account maildir front _ _ firsts legal = tt

-- the flags are those of the Maildir, if there is one: none is held in an mboxrd file
pub flags_same : {D F : Type 0} (disk : DiskGhosts D) (file : FileGhosts F) (store : Store D F) (account : List ℕ) (items : List Item)
    → held_flags (target_of store account) (stores_of disk file store) items ≡ flags_of account (stores_of disk file store).maildir items
flags_same _ _ (InMaildir _) _ _ = refl
flags_same _ _ (InMbox _) _ _ = refl

-- the flag of one item more
pub flags_more : (f : List ℕ → Bool) (items : List Item) (i : ℕ) (flags new : List Bool) (uid : List ℕ) (flag : Bool)
    → flags ≡ map (λ (item : Item). f item.uid) (take i items) → i < length items → HoldsAt (λ (item : Item). uid ≡ item.uid) items i
    → flag ≡ f uid → new ≡ flags ++ flag ∷ [] → new ≡ map (λ (item : Item). f item.uid) (take (i + 1) items)
flags_more f items i _ _ _ flag before inside at is pushed =
    let test : Item → Bool = λ item. f item.uid in
    let item = get_or items i empty_item in
    pushed ∙ ap (λ xs. xs ++ flag ∷ []) before ∙ ap (λ b. map test (take i items) ++ b ∷ []) (is ∙ ap f (at empty_item))
    ∙ sym (map-append test (take i items) (item ∷ [])) ∙ ap (map test) (sym (take_more _ i _ inside))

-- ---- what is durable once a record was made ready, or wasn't

pub untaken : {Q : Maildir → Type 0} (maildir : Maildir) → Q maildir → (left : Maildir) × WereTaken maildir left × Q left
untaken maildir is = (maildir, none_taken maildir, is)

-- a record's file that couldn't be read or flushed has the same bytes
pub unsecured_same : (old new : Stored) (fault : Fault) → IsSecured old (Err fault) new → new.content ≡ old.content
unsecured_same _ _ SeenRefused is = cc is
unsecured_same _ _ _ never = absurd never

module _ {D F : Type 0} (disk : DiskGhosts D) (files : FileGhosts F) where
  -- the store wasn't asked, and the record's file has the same bytes
  pub unasked : {A B safe : Type 0} {settings : Settings} {items : List Item} {now : ℕ} {fault : Fault}
      {after : List Row} (was : Store D F) (from f : F) (target : Target) → A → B
      → CausesUnready target items fault (stores_of disk files was) (stored_in files from) (stores_of disk files was)
      (stored_in files f) → (stored_in files f).content ≡ (stored_in files from).content
      → LeavesNoMore (MayLeave (files.disk from)) (MayLeave (files.disk f)) → A × B × AfterTakingIn (stores_of disk files was)
      (λ left. ReadiesDurably disk files safe was from settings target items now left (Err fault) after was f)
  unasked _ _ f _ a b why same no_more = (
    a,
    b,
    untaken _ (record { readies = record { cause = why; content = inl same }; durable = λ _. (no_more, inl (λ _ may. may)) }),
  )

  -- the same if the record's file was read and flushed before
  module _ (was : Store D F) (from mid f : F) (no_more : LeavesNoMore (MayLeave (files.disk from)) (MayLeave (files.disk mid)))
      (same : stored_in files mid ≡ stored_in files from) where
    ready_from : (settings : Settings) (target : Target) (items : List Item) (now : ℕ) (old new : Stores)
        (file file' : Stored) (after : List Row) (store : Store D F) (r : Result Ready Fault)
        → (is : Readies settings target items now old file r after new file')
        → DurableReady files was mid settings target items now old file r after new file' is store f
        → DurableReady files was from settings target items now old file r after new file' is store f
    ready_from settings target items now old new file file' after store (Ok ready) is durable = by after file file' _ is.durable durable
      where
        by : {Quiet Durable : Type 0} (rows : List Row) (old new : Stored) (Safe : Type 0) (either : (Quiet
            × IsFileKept rows old new) ⊎ Durable) → UnlessQuiet files was mid rows old new either Safe store f
            → UnlessQuiet files was from rows old new either Safe store f
        by rows old new Safe (inl (quiet, inl kept)) (un, still) =
            (record { no_more = λ left may. no_more left (un.no_more left may); same = un.same ∙ same }, still)
        by rows old new Safe (inl (quiet, inr anew)) safe = safe
        by rows old new Safe (inr durable) safe = safe
    ready_from settings target items now old new file file' after store (Err fault) is durable = by is.content durable
      where
        by : (content : IsMergedAtMost target items now old file new file') → DurableUnready files was mid content store f
            → DurableUnready files was from content store f
        by (inl is) (none, mbox) = (λ left may. no_more left (none left may), mbox)
        by (inr merged) (inl (closed, leaves, still)) =
            inl (closed, λ left may. ⊎_elim (λ before. inl (no_more left before)) inr (leaves left may), still)
        by (inr merged) (inr both) = inr both

    pub readies_from : {safe trust : Type 0} {store : Store D F} {settings : Settings} {target : Target}
        {items : List Item} {now : ℕ} {old : Stores} {r : Result Ready Fault} {after : List Row} → (trust → safe)
        → ReadiesDurably disk files safe was mid settings target items now old r after store f
        → ReadiesDurably disk files trust was from settings target items now old r after store f
    readies_from {trust} {store} {settings} {target} {items} {now} {old} {r} {after} firm is =
        let both = subst (λ (file : Stored). (readies : Readies settings target items now old file r after
        (stores_of disk files store) (stored_in files f))
        × (trust → DurableReady files was from settings target items now old file r after (stores_of disk files store)
        (stored_in files f) readies store f)) same (
          is.readies,
          λ s. ready_from _ _ _ _ _ _ _ _ _ _ r _ (is.durable (firm s)),
        ) in
        record { readies = both.0; durable = both.1 }

-- ---- what was found

-- what follows from what the store told, of what readers have left of it
pub told_of : {A B : Type 0} {Part P Q : Maildir → Type 0} → A × ((left : Maildir) × Part left × P left) → B
    → ((left : Maildir) → P left → Q left) → A × B × ((left : Maildir) × Part left × Q left)
told_of (safe, (left, part, is)) sound both = (safe, sound, (left, part, both left is))

-- the same of a part of a session, which leads its link from another place
pub followed : {A A' B C L L' : Type 0} {Part P Q : Maildir → Type 0} → A × B × C × L × ((left : Maildir) × Part left × P left)
    → A' → L' → ((left : Maildir) → P left → Q left) → A' × B × C × L' × ((left : Maildir) × Part left × Q left)
followed (_, disk, file, _, (left, part, is)) sound leads both = (sound, disk, file, leads, (left, part, both left is))

-- ---- only what isn't known was asked for

-- the laws of merges and of plans
abbrev pub MergesAsk : Type 0
MergesAsk = (rows : List Row) (listing : List Item) (held others : List Bool) (now : ℕ) → IsRecord rows
    → ((uid : List ℕ) → is_delivered rows uid ≡ false → is_flagged listing held uid ≡ is_flagged listing others uid)
    → merged rows listing held now ≡ merged rows listing others now

abbrev pub HeldIsDelivered : Type 0
HeldIsDelivered = (rows : List Row) (listing : List Item) (held : List Bool) (now : ℕ) (uid : List ℕ)
    → is_delivered (merged rows listing held now) uid ≡ is_delivered rows uid || is_flagged listing held uid

abbrev pub MarkedIsDelivered : Type 0
MarkedIsDelivered = (rows : List Row) (uid other : List ℕ)
    → is_delivered (marked rows uid) other ≡ is_delivered rows other || (has_row rows other && bytes_eq uid other)

-- the flags of ids that weren't delivered are those of the store
flagged_sought : (account : List ℕ) (maildir : Maildir) (rows : List Row) (items : List Item) (uid : List ℕ) → is_delivered rows uid ≡ false
    → is_flagged items (flags_sought account maildir items (are_undelivered rows items)) uid ≡ is_flagged items
    (flags_of account maildir items) uid
flagged_sought account maildir rows [] uid new = refl
flagged_sought account maildir rows (item ∷ items) uid new =
    let rest = flagged_sought account maildir rows items uid new in
    elim (cases_Bool (bytes_eq item.uid uid)) [
      | inl same ↦ let here : is_delivered rows item.uid ≡ false = rw ((bytes_eq-Decides item.uid uid).0 same) new in rw (here, rest) refl
      | inr other ↦ rw (other, rest, and-false, and-false) refl
    ]

merged_found : (read_all : Bool) (account : List ℕ) (maildir : Maildir) (rows : List Row) (items : List Item) (now : ℕ)
    → MergesAsk → IsRecord rows → merged rows items (flags_asked read_all account maildir items (are_undelivered rows items)) now
    ≡ merged rows items (flags_of account maildir items) now
merged_found true account maildir rows items now law is = refl
merged_found false account maildir rows items now law is = law rows items _ _ now is (flagged_sought account maildir rows items)

-- and so are those of messages that are fetched
tasks_sought : (account : List ℕ) (maildir : Maildir) (settings : Settings) (was rows : List Row) (steps : List Step)
    (items : List Item) → settings.read_all ≡ false
    → ((uid : List ℕ) → is_delivered rows uid ≡ false → is_delivered was uid ≡ false) → FetchesAsked settings rows steps items
    → AreAsHeld steps items (flags_sought account maildir items (are_undelivered was items)) (flags_of account maildir items)
tasks_sought account maildir settings was rows [] items not_all new asked = refl
tasks_sought account maildir settings was rows (s ∷ ss) [] not_all new asked = refl
tasks_sought account maildir settings was rows (s ∷ ss) (i ∷ is) not_all new asked =
    let rest = tasks_sought account maildir settings was rows ss is not_all new asked.1 in
    elim (cases_Bool (fetches s)) [
      | inl fetched ↦
          let here : is_delivered was i.uid ≡ false = new i.uid (not-true (is_delivered rows i.uid) (rw not_all at (asked.0 fetched))) in
          rw (here, rest) refl
      | inr left ↦ rw (left, rest) refl
    ]

-- the flags that were found are those of the store, as far as these steps use them
pub found_as_held : (target : Target) (store : Stores) (settings : Settings) (was rows : List Row) (steps : List Step) (items : List Item)
    → ((uid : List ℕ) → is_delivered rows uid ≡ false → is_delivered was uid ≡ false) → FetchesAsked settings rows steps items
    → AreAsHeld steps items (flags_found settings.read_all target was store items) (held_flags target store items)
found_as_held AsEntries store settings was rows steps items new asked = refl
found_as_held (AsFiles account) store settings was rows steps items new asked = elim (cases_Bool settings.read_all) [
  | inl all ↦ rw all refl
  | inr not_all ↦ rw not_all (tasks_sought account store.maildir settings was rows steps items not_all new asked)
]

-- whatever isn't delivered once the intent was ended and the listing merged wasn't before
pub not_before : HeldIsDelivered → MarkedIsDelivered
    → (whole : Bool) (was : List Row) (intent : Option Intent) (items : List Item) (held : List Bool) (now : ℕ) (rows : List Row)
    → rows ≡ merged (closed_rows whole was intent) items held now → (uid : List ℕ) → is_delivered rows uid ≡ false
    → is_delivered was uid ≡ false
not_before delivers marks whole was intent items held now rows is uid none =
    closed whole intent (or_parts _ _ (sym (delivers (closed_rows whole was intent) items held now uid) ∙ rw is at none)).0
  where
    closed : (whole : Bool) (intent : Option Intent) → is_delivered (closed_rows whole was intent) uid ≡ false
        → is_delivered was uid ≡ false
    closed whole None new = new
    closed false (Some intent) new = new
    closed true (Some intent) new = (or_parts _ _ (sym (marks was intent.uid uid) ∙ new)).0

-- the rows once the open intent was ended by what was found and the listing merged, what was found, and the store
found_is : (read_all : Bool) (target : Target) (store store' : Stores) (items : List Item) (now : ℕ) (was : RecordState)
    (found : Found) → MergesAsk → IsRecord was.rows → FindsIn read_all target was store items (Ok found) store'
    → (merged (closed_rows found.stored was.rows was.intent) items found.held.items now ≡ merged_in target store was items now)
    × (found.held.items ≡ flags_found read_all target was.rows store items) × SettlesStore target was items store store'
    × AreDurable target was.rows items store × (found.odd.items ≡ map (λ (item : Item). odd_in target store item.uid) items)
found_is read_all (AsFiles account) store store' items now was found law is_record (held, stored, same, durable, odd) = (
  rw (stored, not_whole was.rows was.intent, held) (merged_found read_all account store.maildir was.rows items now law is_record),
  held,
  same,
  durable,
  odd,
)
found_is read_all AsEntries store store' items now was found law is_record (bytes, is, stored, settled, goes_on, held, odd) =
    (rw (stored, is, held) refl, held, (bytes, is, settled, goes_on), tt, odd)

-- ---- nothing was planned

pub unread : (target : Target) (items : List Item) (store : Stores) (file new : Stored) (loaded : Loaded)
    (fault : Fault) → ReadsRecord file loaded (Err fault) new
    → CausesUnready target items fault store file store new × (new.content ≡ file.content)
unread (AsFiles _) _ store _ _ _ SeenRefused is = ((omega (arith, ap (λ (s : Stored). s.failures) is), refl), rw is)
unread AsEntries _ store _ _ _ SeenRefused is = ((omega (arith, ap (λ (s : Stored). s.failures) is), inl refl), rw is)
unread (AsFiles _) _ store _ _ _ NoMemory is = (refl, rw is)
unread AsEntries _ store _ _ _ NoMemory is = (inl refl, rw is)
unread (AsFiles _) _ store _ _ _ (BadSeen _) is = ((is, refl), rw is.3)
unread AsEntries _ store _ _ _ (BadSeen _) is = ((is, refl), rw is.3)
unread _ _ store _ _ _ _ never = absurd never

unready_if_refused : (fault : Fault) (maildir : Maildir) (file : Stored) (maildir' : Maildir) (file' : Stored)
    → FindsRefused maildir fault maildir' → UnreadyCause fault maildir file maildir' file'
unready_if_refused (StoreRefused why.Missing) _ _ _ _ is = is
unready_if_refused (StoreRefused why.Refused) _ _ _ _ is = is
unready_if_refused NoMemory _ _ _ _ is = is
unready_if_refused _ _ _ _ _ never = absurd never

mbox_refused : (fault : Fault) (items : List Item) (was : RecordState) (mbox file mbox' file' : Stored)
    → Keeps file.content was → AsksMbox was.intent mbox items (Err fault) mbox' → MboxUnready items fault mbox file mbox' file'
mbox_refused (StoreRefused why.Missing) _ _ _ _ _ _ kept is = is
mbox_refused (StoreRefused why.Refused) _ was _ _ _ _ kept (up, most) = (omega (arith, up), inr (was, kept, most))
mbox_refused (StoreRefused why.NotMbox) items was _ _ _ _ kept (bytes, is, other, now) = (
  (closed_file was.intent items bytes, cc, other),
  inr (was, kept, inr (bytes, is, cc)),
)
mbox_refused NoMemory _ was _ _ _ _ kept (_, most) = inr (was, kept, most)
mbox_refused _ _ _ _ _ _ _ kept never = absurd never

-- the store refused
pub finding_refused : (read_all : Bool) (target : Target) (items : List Item) (store store' : Stores) (file new : Stored)
    (loaded : Loaded) (fault : Fault) → FileReadAs file.content loaded
    → FindsIn read_all target (record_state_in loaded) store items (Err fault) store'
    → CausesUnready target items fault store file store' new
finding_refused _ (AsFiles _) _ store store' file new _ fault _ finds = unready_if_refused _ _ _ _ _ finds
finding_refused _ AsEntries items store store' file new loaded fault stood finds = mbox_refused _ _ _ _ _ _ _ (read_keeps _ _ stood) finds

-- ---- the listing was merged

-- what a merge that wasn't followed by a plan is told as
abbrev pub stop_of : Result (Unit {0}) Fault → Fault
stop_of (Ok _) = NoMemory
stop_of (Err fault) = fault

module _ {D F : Type 0} (disk : DiskGhosts D) (files : FileGhosts F) (was place : Store D F) (from f : F) (account : List ℕ)
    (settings : Settings) (items : List Item) (now : ℕ) (left : Maildir) (loaded : Loaded) (found : Found)
    (stood : FileReadAs (stored_in files from).content loaded)
    (law : MergesAsk) (is_record : IsRecord loaded.rows)
    (finds : FindsIn settings.read_all (target_of was account) (record_state_in loaded)
    (with_maildir (stores_of disk files was) left) items (Ok found)
    (stores_of disk files place)) where
  abbrev store : Stores
  store = with_maildir (stores_of disk files was) left

  abbrev state : RecordState
  state = record_state_in loaded

  kept : Keeps (stored_in files from).content state
  kept = read_keeps _ _ stood

  abbrev here : List Row
  here = merged (closed_rows found.stored loaded.rows loaded.intent) items found.held.items now

  is : (here ≡ merged_in (target_of was account) store state items now)
      × (found.held.items ≡ flags_found settings.read_all (target_of was account) loaded.rows store items)
      × SettlesStore (target_of was account) state items store (stores_of disk files place)
      × AreDurable (target_of was account) loaded.rows items store
      × (found.odd.items ≡ map (λ (item : Item). odd_in (target_of was account) store item.uid) items)
  is = found_is settings.read_all (target_of was account) store (stores_of disk files place) items now state found law is_record finds

  as_now : here ≡ merged_in (target_of was account) store state items now
  as_now = is.0

  -- why it isn't ready, if memory ran out, or if the record's file was refused
  cause : (t : Target) → SettlesStore t state items store (stores_of disk files place)
      → CausesUnready t items NoMemory store (stored_in files from) (stores_of disk files place) (stored_in files f)
      × ((stored_in files from).failures < (stored_in files f).failures
      → CausesUnready t items SeenRefused store (stored_in files from) (stores_of disk files place) (stored_in files f))
  cause (AsFiles _) same = let is = ap (λ (s : Stores). s.maildir) same in (is, λ risen. (risen, is))
  cause AsEntries (bytes, is, now, _) = let settled = inr (state, kept, inr (bytes, is, cc)) in (settled, λ risen. (risen, settled))

  reason : (r : Result (Unit {0}) Fault) → Merges (stored_in files from) state (none_open here) r (stored_in files f)
      → CausesUnready (target_of was account) items (stop_of r) store (stored_in files from) (stores_of disk files place)
      (stored_in files f)
  reason (Ok _) _ = (cause _ is.2).0
  reason (Err SeenRefused) merges = (cause _ is.2).1 (omega (arith, merges.0))
  reason (Err NoMemory) _ = (cause _ is.2).0
  reason (Err _) never = absurd never

  -- what the record's file stands for
  stands : (r : Result (Unit {0}) Fault) → Merges (stored_in files from) state (none_open here) r (stored_in files f)
      → Keeps (stored_in files f).content state
      ⊎ Keeps (stored_in files f).content (none_open (merged_in (target_of was account) store state items now))
  stands (Ok done) merges = inr (rw as_now at (steady_keeps (stored_in files f).content (none_open here) merges.1))
  stands (Err SeenRefused) merges = rw as_now at merges.1
  stands (Err NoMemory) merges = inl (subst (λ (s : Stored). Keeps s.content state) (sym merges) kept)
  stands (Err _) never = absurd never

  abbrev now_rows : List Row
  now_rows = merged_in (target_of was account) store state items now

  -- a durable record with an open intent is what was read
  read_left : {intent : Intent} → loaded.intent ≡ Some intent → IsSafeFile files from → (left : Option (List ℕ))
      → MayLeave (files.disk from) left → left ≡ (stored_in files from).content
  read_left opened firm left may = by _ refl kept
    where
      by : (content : Option (List ℕ)) → (stored_in files from).content ≡ content → Keeps content state → left ≡
          (stored_in files from).content
      by None is keeps = absurd (let never = sym keeps.1 ∙ opened in cc)
      by (Some bytes) is _ = (firm.1 bytes is).1 left may ∙ sym is

  -- no intent was open, or the record and the mboxrd file are durable
  merging : (intent : Option Intent) → loaded.intent ≡ intent → IsSafeFile files from
      → LeavesMerged (MayLeave (files.disk from)) state now_rows (MayLeave (files.disk f)) → IsSafeStore files place
      → LeavesSettled loaded.intent (mbox_of files was).content (may_leave_in files was) (may_leave_in files place)
      → ((loaded.intent ≡ None) × LeavesMerged (MayLeave (files.disk from)) state now_rows (MayLeave (files.disk f))
      × LeavesStore files was place) ⊎ (LeavesMerged (λ left. left ≡ (stored_in files from).content) state now_rows
      (MayLeave (files.disk f))
      × IsSafeStore files place)
  merging None closed firm leaves whole settled = inl (
    closed,
    leaves,
    subst (λ (o : Option Intent). LeavesSettled o (mbox_of files was).content (may_leave_in files was)
        (may_leave_in files place)) closed settled,
  )
  merging (Some intent) opened firm leaves whole settled =
      inr (λ left may. ⊎_elim (λ before. inl (read_left opened firm left before)) inr (leaves left may), whole)

  -- it wasn't saved, or memory ran out for the plan
  pub unready : {safe : Type 0} {after : List Row} (r : Result (Unit {0}) Fault)
      → Merges (stored_in files from) state (none_open here) r (stored_in files f) → (safe → IsSafeFile files from
      × LeavesMerged (MayLeave (files.disk from)) state here (MayLeave (files.disk f)) × IsSafeStore files place
      × LeavesSettled loaded.intent (mbox_of files was).content (may_leave_in files was) (may_leave_in files place))
      → ReadiesDurably disk files safe was from settings (target_of was account) items now store (Err (stop_of r)) after place f
  unready r merges leaves = record {
    readies = record {
      cause = reason r merges;
      content = inr (record { was = state; stood = kept; settles = is.2; durable = inr is.3; stands = stands r merges });
    };
    durable = λ trust. let (firm, left, whole, settled) = leaves trust in
        merging _ refl firm (rw as_now at left) whole settled;
  }

  pub ready : {safe : Type 0} (plan : Ready) {after : List Row} → HeldIsDelivered → MarkedIsDelivered
      → FetchesAsked settings after plan.steps.items items → Merges (stored_in files from) state (none_open here) (Ok tt)
      (stored_in files f)
      → after ≡ here → plan.held.items ≡ found.held.items → ((is_odd : List ℕ → Bool)
      → found.odd.items ≡ map (λ (item : Item). is_odd item.uid) items → plan.steps.items ≡ planned settings is_odd after items now)
      → (safe → IsSafeFile files f × IsSafeStore files place)
      → ReadiesDurably disk files safe was from settings (target_of was account) items now store (Ok plan) after place f
  ready plan {after} delivers marks asked merges rows_are flags_are steps_are firm = record {
    readies = record {
      was = state;
      stood = kept;
      held = ap (tasks_planned plan.steps.items items) (flags_are ∙ is.1)
          ∙ found_as_held (target_of was account) store settings loaded.rows after plan.steps.items items
          (not_before delivers marks found.stored loaded.rows loaded.intent items found.held.items now after rows_are) asked;
      rows = rows_are ∙ as_now;
      steps = steps_are _ is.4;
      durable = inr is.3;
      saved = rw rows_are merges.1;
      file_count = merges.0;
      settles = is.2;
    };
    durable = firm;
  }

-- ---- every listed id has a row

pub all_have_rows : ((rows : List Row) (listing : List Item) (held : List Bool) (now : ℕ) (uid : List ℕ)
    → has_row (merged rows listing held now) uid ≡ (has_row rows uid || has_item listing uid))
    → (rows : List Row) (items : List Item) (held : List Bool) (now : ℕ) (after : List Row)
    → after ≡ merged rows items held now → AllByRecursion (λ (item : Item). has_row after item.uid ≡ true) items
all_have_rows law rows items held now after is = recursion_from_All (λ (item : Item). has_row after item.uid ≡ true) items (λ k d inside.
    let listed = list_any_at (λ (i : Item). bytes_eq (get_or items k d).uid i.uid) items k d inside
    ((bytes_eq-Decides (get_or items k d).uid (get_or items k d).uid).1 refl) in rw (is, law, listed) (or-true _))

-- ---- what is ready if the store needn't be asked what it holds

pub planned_length : (settings : Settings) (is_odd : List ℕ → Bool) (rows : List Row) (items : List Item) (now : ℕ)
    → length (planned settings is_odd rows items now) ≡ length items
planned_length settings is_odd rows items now =
    length-map (numbered _) (step_of settings is_odd rows items now) ∙ length-enumerate_from 1 _

-- flags that go by ids are as many as the messages
pub by_ids_length : (items : List Item) (flags : List Bool) → AreById items flags → length flags ≡ length items
by_ids_length items flags (test, are) = ap length are ∙ length-map items (λ (item : Item). test item.uid)

-- steps that fetch nothing ask for the same, whatever is held
pub quiet_same : (steps : List Step) (items : List Item) (xs ys : List Bool) → All IsQuiet steps
    → length xs ≡ length items → length ys ≡ length items → AreAsHeld steps items xs ys
quiet_same (s ∷ _) (i ∷ is) [] _ _ ones _ = absurd (omega (arith, ones))
quiet_same (s ∷ _) (i ∷ is) (x ∷ _) [] _ _ others = absurd (omega (arith, others))
quiet_same (s ∷ ss) (i ∷ is) (x ∷ xs) (y ∷ ys) quiet ones others =
    rw (
      (quiet 0 s (omega arith)).0,
      quiet_same ss is xs ys (λ k d inside. quiet (suc k) d (omega (arith, inside))) (omega (arith, ones)) (omega (arith, others)),
    )
quiet_same _ _ _ _ _ _ _ = refl

flags_length : (target : Target) (store : Stores) (items : List Item) → length (held_flags target store items) ≡ length items
flags_length (AsFiles account) store items = length-map items (λ item. is_held account store.maildir item.uid)
flags_length AsEntries _ items = length-map items (λ _. false)

-- ---- what was looked at

-- the record was read and written anew
pub is_anew : (loaded : Loaded) (old new : Stored) → FileReadAs old.content loaded → loaded.intent ≡ None
    → loaded.stale ≡ true → new ≡ holding old (file_of loaded.rows None) → IsAnew loaded.rows old new
is_anew loaded old new stood closed stale is = (rw closed at (read_keeps old.content loaded stood), (loaded, stood, stale), is)

-- there is no place
pub idle_check_refused : (kind : Kind) (items : List Item) (old new : Stores) (refusal : StoreFault) (fault : Fault)
    → ChecksStore {T = Unit {0}} kind old (Err refusal) new → IsStoreFault refusal fault → ChecksIdle kind old items (Err fault) new
idle_check_refused Files items old new refused.Missing fault is told = rw told is.0
idle_check_refused Files items old new refused.Refused fault is told = rw told is.0
idle_check_refused Files items old new _ fault is told = absurd is.0
idle_check_refused Entries items old new refusal fault is told =
    (asks_refused None old.mbox old.mbox new.mbox false items refusal fault (refl, refl) is.0 told, is.1)

module _ {D F : Type 0} (disk : DiskGhosts D) (files : FileGhosts F) (account : List ℕ) where
  -- a store that was only looked at
  settles_same : (store : Store D F) (was : RecordState) (items : List Item) (new : Stores) → was.intent ≡ None
      → ChecksStore {T = Unit {0}} (kind_of store) (stores_of disk files store) (Ok tt) new
      → SettlesStore (target_of store account) was items (stores_of disk files store) new
  settles_same (InMaildir _) _ _ _ closed ((_, _, same), others) = λ i. record { maildir = same i; mbox = others i }
  settles_same (InMbox device) _ _ _ closed (((bytes, goes_on), same), _) =
      rw closed (bytes, goes_on.0, same ∙ held_same _ _ goes_on.0, goes_on.1)

  rows_same : (store : Store D F) (was : RecordState) (items : List Item) → was.intent ≡ None
      → closed_rows_in (target_of store account) (stores_of disk files store) was items ≡ was.rows
  rows_same (InMaildir _) _ _ closed = refl
  rows_same (InMbox _) _ _ closed = rw closed refl

  module _ {settings : Settings} {items : List Item} {now : ℕ} (store store' : Store D F) (from f : F) (loaded : Loaded) (steps : List Step)
      (law : (rows : List Row) (listing : List Item) (held : List Bool) (now : ℕ) → IsRecord rows
      → All (λ (item : Item). is_delivered rows item.uid ≡ true) listing → merged rows listing held now ≡ rows)
      (stood : FileReadAs (stored_in files from).content loaded) (idle : IsIdle settings loaded items now steps) where
    abbrev looked_at : Stores
    looked_at = stores_of disk files store

    abbrev was_read : RecordState
    was_read = record_state_in loaded

    -- a merge changes nothing
    merged_same : merged_in (target_of store account) looked_at was_read items now ≡ loaded.rows
    merged_same =
        let flags = held_flags (target_of store account) looked_at items in
        cc (rows_same store was_read items idle.closed, law loaded.rows items flags now idle.is_record idle.known)

    pub rested : {safe : Type 0} (ready : Ready) → ChecksIdle (kind_of store) looked_at items (Ok ready) (stores_of disk files store')
        → (kept : IsFileKept loaded.rows (stored_in files from) (stored_in files f)) → Steady (stored_in files f).content
        (none_open loaded.rows)
        → (stored_in files f).failures ≡ (stored_in files from).failures
        → DurableKept files from loaded.rows (stored_in files from) (stored_in files f) kept f → LeavesStore files store store'
        → ready.steps.items ≡ steps → length ready.held.items ≡ length items
        → ReadiesDurably disk files safe store from settings (target_of store account) items now looked_at (Ok ready) loaded.rows store' f
    rested ready rests kept saved count lasting still are counted = record {
      readies = record {
        was = was_read;
        stood = read_keeps _ _ stood;
        held = quiet_same _ _ _ _ (rw are idle.quiet) counted (flags_length _ _ _);
        rows = sym merged_same;
        steps = are ∙ idle.planned _;
        durable = inl (rw are idle.quiet, kept);
        saved = saved;
        file_count = count;
        settles = settles_same _ _ _ _ idle.closed rests;
      };
      durable = λ _. (lasting, still);
    }

    -- the store refused to be looked at
    pub unrested : {safe : Type 0} (fault : Fault)
        → ChecksIdle (kind_of store) looked_at items (Err fault) (stores_of disk files store') → LeavesStore files store store' → f ≡ from
        → ReadiesDurably disk files safe store from settings (target_of store account) items now looked_at (Err fault) loaded.rows store' f
    unrested fault finds still same = record {
      readies = record {
        cause = by store finds;
        content = inl (ap (λ (d : F). (stored_in files d).content) same);
      };
      durable = λ trust. (λ left may. subst (λ (d : F). MayLeave (files.disk d) left) same may, inl still);
    }
      where
        by : (store : Store D F) → ChecksIdle (kind_of store) (stores_of disk files store) items (Err fault) (stores_of disk files store')
            → CausesUnready (target_of store account) items fault (stores_of disk files store) (stored_in files from)
            (stores_of disk files store') (stored_in files f)
        by (InMaildir device) finds =
            finding_refused false (AsFiles account) items (in_maildir (disk.maildir device)) (stores_of disk files store')
            (stored_in files from) (stored_in files f) loaded fault stood finds
        by (InMbox device) finds = finding_refused false AsEntries items (in_mbox (stored_in files device))
            (stores_of disk files store') (stored_in files from) (stored_in files f) loaded fault stood
            (subst (λ (intent : Option Intent). AsksMbox intent (stored_in files device) items (Err fault)
            (stores_of disk files store').mbox) (sym idle.closed) finds.0)

    -- the record's file couldn't be written anew
    pub unrenewed : {safe : Type 0} (ready : Ready) (fault : Fault)
        → ChecksIdle (kind_of store) looked_at items (Ok ready) (stores_of disk files store')
        → Merges (stored_in files from) was_read was_read (Err fault) (stored_in files f)
        → LeavesMerged (MayLeave (files.disk from)) was_read loaded.rows (MayLeave (files.disk f)) → LeavesStore files store store'
        → ReadiesDurably disk files safe store from settings (target_of store account) items now looked_at (Err fault) loaded.rows store' f
    unrenewed ready fault rests merges leaves still = record {
      readies = record {
        cause = why fault merges store rests;
        content = inr (record {
          was = was_read;
          stood = kept;
          settles =
              settles_same _ _ _ _ idle.closed rests;
          durable =
              inl merged_same;
          stands = inl (stands fault merges);
        });
      };
      durable = λ _. inl (idle.closed, rw merged_same leaves, still);
    }
      where
        kept : Keeps (stored_in files from).content was_read
        kept = read_keeps _ _ stood

        stands : (fault : Fault) → Merges (stored_in files from) was_read was_read (Err fault) (stored_in files f)
            → Keeps (stored_in files f).content was_read
        stands SeenRefused merges = ⊎_elim (λ is. is) (λ is. is) merges.1
        stands NoMemory merges = subst (λ (s : Stored). Keeps s.content was_read) (sym merges) kept
        stands _ never = absurd never

        why : (fault : Fault) → Merges (stored_in files from) was_read was_read (Err fault) (stored_in files f) → (store : Store D F)
            → ChecksIdle (kind_of store) (stores_of disk files store) items (Ok ready) (stores_of disk files store')
            → CausesUnready (target_of store account) items fault (stores_of disk files store) (stored_in files from)
            (stores_of disk files store') (stored_in files f)
        why SeenRefused merges (InMaildir _) ((_, _, same), _) = (omega (arith, merges.0), same)
        why SeenRefused merges (InMbox _) ((_, same), _) = (omega (arith, merges.0), inl (cc))
        why NoMemory _ (InMaildir _) ((_, _, same), _) = same
        why NoMemory _ (InMbox _) ((_, same), _) = inl (cc)
        why _ never store _ = absurd never

-- ---- whatever came of it

pub rest_has_plan : (kind : Kind) (settings : Settings) (items : List Item) (now : ℕ) (seen : Loaded) (r : Result Ready Fault)
    (steps : List Step) → ((rows : List Row) (uid : List ℕ) → is_delivered rows uid ≡ true → has_row rows uid ≡ true)
    → IsIdle settings seen items now steps
    → IfOk r (λ ready. ready.steps.items ≡ steps) → IfOk r (λ ready. length ready.held.items ≡ length items)
    → IfOk r (λ ready. HasPlan kind settings items now ready seen)
rest_has_plan kind settings items now seen (Ok ready) steps law idle same held = record {
  is_odd = none_odd;
  may_be = none_may_be kind;
  steps = same ∙ idle.planned none_odd;
  lengths = (ap length (same ∙ idle.planned none_odd) ∙ planned_length settings none_odd seen.rows items now, held);
  rows = recursion_from_All _ items (λ k d inside. law seen.rows _ (idle.known k d inside));
  closed = idle.closed;
}
  where
    none_may_be : (kind : Kind) → MayBeOdd kind none_odd
    none_may_be Files = tt
    none_may_be Entries = refl
rest_has_plan _ _ _ _ _ (Err _) _ _ _ _ _ = tt

pub rest_held : (r : Result Ready Fault) (target : Target) (steps : List Step) (items : List Item) (new : Stores) → All IsQuiet steps
    → IfOk r (λ ready. ready.steps.items ≡ steps) → IfOk r (λ ready. length ready.held.items ≡ length items)
    → IfOk r (λ ready. AreAsHeld ready.steps.items items ready.held.items (held_flags target new items))
rest_held (Ok ready) target _ items new quiet same held = quiet_same _ _ _ _ (rw same quiet) held (flags_length _ _ _)
rest_held (Err _) _ _ _ _ _ _ _ = tt

pub rest_named : (P : Type 0) (r : Result Ready Fault) (steps : List Step) → All IsQuiet steps → IfOk r (λ ready. ready.steps.items ≡ steps)
    → IfOk r (λ ready. All IsQuiet ready.steps.items ⊎ P)
rest_named P (Ok ready) _ quiet same = inl (rw same quiet)
rest_named P (Err _) _ _ _ = tt
