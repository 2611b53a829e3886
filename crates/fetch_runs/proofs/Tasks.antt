-- The tasks of a plan, and those of them that were done: what they retrieved, stored, recorded and deleted, beside what was
-- wanted; and how many of them a course took, recorded and retrieved.
use Rattle.std.{
  proofs.Common.{◌≡◌, ◌+◌, ◌-◌, ℕ, Bool, true, false, cond, List, ◌∷◌, ◌++◌, map, zip, Option, Some, refl, sym, ap, append_assoc, length},
  proofs.Common.{length-append, arith, rules, take, ◌∙◌, ◌⊎◌, inl, inr, None, Result, Ok, Err, []},
  proofs.lemmas.{Bool.{or_right, or_left}, Simd.map-map, Option.{slice_get_within, get_or_from_slice_get}},
  proofs.lemmas.List.{append-nil, take_at, take-map, length-map, map-append, Concat.flat_map-append, Sums.sum_by-append},
  proofs.lemmas.List.Folds.{flat_map-map, list_any_at},
  specs.{Prelude.{◌&&◌, ◌||◌, ◌<◌, not, slice_get, option_to_list}, List.{flat_map, filter, AllByRecursion, enumerate_from, AllZip}},
}
use Rattle.mail_terms.specs.Listing.{Item, has_item, numbered, is_first, is_last, is_flagged}
use Rattle.rc_file.specs.declared.settings.Settings.{Settings}
use Rattle.fetch_record.specs.Record.{Row, is_delivered, is_of, has_row, with_delivered, marked, marked_all, new_ids, merged, none_open}
use Rattle.fetch_rules.specs.{Wanted.wanted, declared.plans.Step.Step, Plan.{fetches, is_for_odd, step_of}}
use Rattle.mail_store.specs.{Maildir.Maildir, Held.flags_of, FileName.{is_held, is_odd}}
use Rattle.pop3_client.specs.{Conversation.Talked, Turns.{quit, retr, IsGood}, Texts.body_text}
use Rattle.session_parts.specs.{
  Task.{Task, says, stores, rereads, deletes, fetching, deleting, tasks_in, tasks_planned, Done, IsAnswered, turns_in, tasks_of, files_in},
  Task.{files_of, lines_in, report_lines, ids_ahead, task_in, ids_in, marked_ids},
  Target.{AsFiles, in_maildir, Target},
  Report.{is_text_taken, retrieved_in},
  declared.{fault.Cut.Cut, report.Outcome.TheVariants.Cut as WasCut},
  Session.outcome_of,
  Record.{Keeps, Steady},
  Scene.{Scene, AllWent, Went, Fell},
}
use Rattle.pop3_wire.specs.{Place.Place, Reading.WholeReply}
use Rattle.fetch_runs.{
  specs.{Sessions.{file_for, is_unheld, ids_wanted, IsUnsaved, settled}, Below.Below},
  proofs.Turns.{found_for, found_by, deleted_in, deleted_by, found_number, text_found, Course, course, stored_done, found_of},
  proofs.Turns.{nothing_found, number_of},
  proofs.{Lists.{bytes_self, bytes_same, all_append, all_front, all_map, marks_stay}, Core.{IsNumbered, are_numbered}},
}
use mathlib.Core.Logic.{⊎_map}
use Rattle.session_parts.specs.CarryingOut as Session

-- the tasks of an account with a Maildir
abbrev pub tasks_ahead : Settings → List ℕ → List Item → ℕ → Maildir → List Row → List Task
tasks_ahead settings account items now maildir rows = Session.tasks_ahead settings (AsFiles account) items now (in_maildir maildir) rows

-- the number and the id of a message
abbrev pub key : ℕ × Item → ℕ × List ℕ
key message = (message.0, message.1.uid)

-- the number and the id of the message that a task fetches, if it fetches one
abbrev pub fetched_in : Task → List (ℕ × List ℕ)
fetched_in (stores number uid) = (number, uid) ∷ []
fetched_in (rereads number uid) = (number, uid) ∷ []
fetched_in _ = []

abbrev pub fetched_by : List Task → List (ℕ × List ℕ)
fetched_by tasks = flat_map fetched_in tasks

-- what a task fetches is listed, and is stored only if it isn't held; what it deletes is at its number, and
-- no other message has its id
abbrev pub IsRight : List ℕ → Maildir → List Item → Task → Type 0
IsRight account maildir items (stores number uid) = (is_held account maildir uid ≡ false) × (has_item items uid ≡ true)
IsRight account maildir items (rereads number uid) = (is_held account maildir uid ≡ true) × (has_item items uid ≡ true)
IsRight account maildir items (deletes number) = (item : Item) × (slice_get items (number - 1) ≡ Some item)
    × (0 < number) × ((is_first items (number, item) && is_last items (number, item)) ≡ true)
IsRight account maildir items _ = Unit {0}

-- what holds of each stored id holds of an id when its message is deleted
abbrev pub Safe : (List ℕ → Type 0) → List Item → List Task → Type 0
Safe D items [] = Unit {0}
Safe D items (stores number uid ∷ tasks) = D uid → Safe D items tasks
Safe D items (deletes number ∷ tasks) = AllByRecursion D (deleted_in items (deletes number)) × Safe D items tasks
Safe D items (_ ∷ tasks) = Safe D items tasks

abbrev pub tasks_at : (ℕ × Item → Step) → (List ℕ → Bool) → ℕ × Item → List Task
tasks_at f held message = tasks_in (f message) message.1 (held message.1.uid)

by_message : (f : ℕ × Item → Step) (held : List ℕ → Bool) (n : ℕ) (items : List Item)
    → tasks_planned (map f (enumerate_from n items)) items (map (λ (item : Item). held item.uid) items)
    ≡ flat_map (tasks_at f held) (enumerate_from n items)
by_message f _ n [] = refl
by_message f held n (item ∷ items) = ap (λ l. tasks_at f held (n, item) ++ l) (by_message f _ (n + 1) items)

-- what a plan is made from; with an mboxrd file the Maildir is an empty one
pub record Inputs : Type 0 where
  pub settings : Settings
  pub account : List ℕ
  pub items : List Item
  pub now : ℕ
  pub maildir : Maildir
  pub rows : List Row

-- the rows after the merge, the planned tasks, and the messages that are wanted
abbrev pub rows_on : Inputs → List Row
rows_on p = merged p.rows p.items (flags_of p.account p.maildir p.items) p.now

abbrev pub ahead_on : Inputs → List Task
ahead_on p = tasks_ahead p.settings p.account p.items p.now p.maildir (rows_on p)

-- of which ids what can't be opened bears a name
abbrev pub odd_on : Inputs → List ℕ → Bool
odd_on p = is_odd p.account p.maildir

abbrev pub messages_on : Inputs → List (ℕ × Item)
messages_on p = wanted p.settings (odd_on p) (rows_on p) p.items

abbrev pub IsRightOn : Inputs → Task → Type 0
IsRightOn p task = IsRight p.account p.maildir p.items task

abbrev steps_on : Inputs → ℕ × Item → Step
steps_on p = step_of p.settings (odd_on p) (rows_on p) p.items p.now

-- the tasks of a plan are those of its messages, and QUIT
tasks_are : (p : Inputs) → ahead_on p ≡ flat_map (tasks_at (steps_on p) (is_held p.account p.maildir)) (numbered p.items) ++ says quit ∷ []
tasks_are p = rw (by_message (steps_on p) (is_held p.account p.maildir) 1 p.items) refl

-- ---- what is fetched

fetched_plan : (f : ℕ × Item → Step) (held : List ℕ → Bool) → ((q : ℕ × Item) → (f q).number ≡ q.0) → (qs : List (ℕ × Item))
    → fetched_by (flat_map (tasks_at f held) qs) ≡ map key (map (λ (p : Step × (ℕ × Item)). p.1)
    (filter (λ (p : Step × (ℕ × Item)). fetches p.0) (zip (map f qs) qs)))
fetched_plan f held same [] = refl
fetched_plan f held same (q ∷ qs) =
    grind (arith, same q, flat_map-append fetched_in (tasks_at f held q) (flat_map (tasks_at f held) qs), fetched_plan f held same qs)

-- ---- what is listed

listed_at : (items : List Item) (n : ℕ) (item : Item) → slice_get items n ≡ Some item → has_item items item.uid ≡ true
listed_at items n item at = list_any_at _ _ n item
    (slice_get_within items n item at) (rw (get_or_from_slice_get items n item item at) (bytes_self item.uid))

-- ---- what is deleted

module _ (D : List ℕ → Type 0) (p : Inputs) (delivered : (uid : List ℕ) → is_delivered (rows_on p) uid ≡ true → D uid)
    (known : (uid : List ℕ) → has_item p.items uid ≡ true → is_held p.account p.maildir uid ≡ true → D uid) where
  -- these tasks are right, and safe before later ones
  abbrev AreFit : List Task → List Task → Type 0
  AreFit tasks later = AllByRecursion (IsRightOn p) tasks × (Safe D p.items later → Safe D p.items (tasks ++ later))

  fit_by : (r h d : Bool) (n : ℕ) (uid : List ℕ) (size : ℕ) (later : List Task) → is_held p.account p.maildir uid ≡ h
      → has_item p.items uid ≡ true → (d ≡ true → IsRightOn p (deletes n))
      → (d ≡ true → r ≡ false → D uid) → (D uid → AllByRecursion D (deleted_in p.items (deletes n)))
      → AreFit (fetching r h n uid size ++ deleting d n) later
  fit_by true true true n uid _ later held listed at _ gone =
      (((held, listed), (at refl, tt)), λ safe. (gone (known uid listed held), safe))
  fit_by true false true n _ _ later held listed at _ gone = (((held, listed), (at refl, tt)), λ safe stored. (gone stored, safe))
  fit_by false h true n _ _ later _ _ at due gone = ((tt, (at refl, tt)), λ safe. (gone (due refl refl), safe))
  fit_by r h d n _ _ later held listed at due gone = search rules

  gone_parts : (due delivered fetched odd alone : Bool) → due && ((delivered || fetched) && not odd) && alone ≡ true
      → (alone ≡ true) × (fetched ≡ false → delivered ≡ true)
  gone_parts due delivered fetched odd alone is = (grind (arith, is), λ none. grind (arith, is, none))

  -- what a step deletes is alone with its id, and is recorded if it isn't fetched
  deleted_parts : (q : ℕ × Item) → (steps_on p q).delete ≡ true → ((is_first p.items q && is_last p.items q) ≡ true)
      × (fetches (steps_on p q) ≡ false → is_delivered (rows_on p) q.1.uid ≡ true)
  deleted_parts q is = gone_parts _ _ (fetches (steps_on p q)) (is_for_odd (steps_on p q).skip) _ is

  fit_all : (qs : List (ℕ × Item)) (later : List Task) → AllByRecursion (IsNumbered p.items) qs
      → AreFit (flat_map (tasks_at (steps_on p) (is_held p.account p.maildir)) qs) later
  fit_all [] later at = (tt, λ safe. safe)
  fit_all (q ∷ qs) later ((numbered, there), at) =
      let more = fit_all qs later at in
      let first = fit_by (fetches (steps_on p q)) (is_held p.account p.maildir q.1.uid) (steps_on p q).delete q.0 q.1.uid
      q.1.size (flat_map (tasks_at (steps_on p) (is_held p.account p.maildir)) qs ++ later) refl
      (listed_at p.items (q.0 - 1) q.1 there) (λ is. (q.1, there, numbered, (deleted_parts q is).0))
      (λ is not. delivered q.1.uid ((deleted_parts q is).1 not)) (λ is. rw there (is, tt)) in (
        all_append _ _ _ first.0 more.0,
        λ safe. rw append_assoc (first.1 (more.1 safe)),
      )

  -- a plan is right, and safe for what holds of each id that is recorded as delivered after the merge, or is held and
  -- listed
  fit_ahead : AllByRecursion (IsRightOn p) (ahead_on p) × Safe D p.items (ahead_on p)
  fit_ahead =
      let all = fit_all _ (says quit ∷ []) (are_numbered p.items) in
      rw (tasks_are p) (all_append _ _ _ all.0 (tt, tt), all.1 tt)

-- ---- tasks that were done

abbrev pub texts_by : List Done → List (List ℕ)
texts_by dones = map text_found (found_by dones)

-- how many messages were retrieved
abbrev pub count : List Done → ℕ
count dones = length (found_by dones)

-- ---- numbers, and lines in the report

found_one : (task : Task) (replies : List WholeReply) → AllZip IsGood (turns_in task) replies
    → (map found_number (found_for task replies) ≡ map (λ (p : ℕ × List ℕ). p.0) (fetched_in task))
    × (retrieved_in (lines_in task replies) ≡ length (found_for task replies))
found_one (stores number _) (_ ∷ []) answered = (refl, refl)
found_one (rereads number _) (_ ∷ []) answered = (refl, refl)
found_one _ _ answered = search rules

pub found_all : (dones : List Done) → AllByRecursion IsAnswered dones
    → (map found_number (found_by dones) ≡ map (λ (p : ℕ × List ℕ). p.0) (fetched_by (tasks_of dones)))
    × (retrieved_in (report_lines dones) ≡ count dones)
found_all [] answered = (refl, refl)
found_all (d ∷ dones) answered =
    let first = found_one _ _ answered.0 in
    let more = found_all dones answered.1 in
    let sum = sum_by-append (λ line. cond (is_text_taken line) 1 0) (lines_in d.task d.replies) (report_lines dones) in (
      simp (map-append, first.0, more.0),
      omega (arith, first.1, more.1, sum, length-append (found_for d.task d.replies) (found_by dones)),
    )

-- ---- files

files_by : (account : List ℕ) (maildir : Maildir) (items : List Item) (dones : List Done) (messages : List (ℕ × Item))
    → AllByRecursion IsAnswered dones
    → AllByRecursion (IsRight account maildir items) (tasks_of dones) → fetched_by (tasks_of dones) ≡ map key messages
    → files_of account dones ≡ map (file_for account) (filter (is_unheld account maildir) (zip messages (texts_by dones)))
files_by account maildir items [] [] answered _ _ = refl
files_by account maildir items [] (m ∷ _) answered right are = absurd cc
files_by account maildir items (d ∷ dones) messages answered right are =
    by d.task d.replies messages answered.0 right.0 are (λ more. files_by account maildir items dones more answered.1 right.1)
  where
    by : (task : Task) (replies : List WholeReply) (ms : List (ℕ × Item)) → AllZip IsGood (turns_in task) replies
        → IsRight account maildir items task → fetched_in task ++ fetched_by (tasks_of dones) ≡ map key ms
        → ((more : List (ℕ × Item)) → fetched_by (tasks_of dones) ≡ map key more → files_of account dones ≡ map (file_for account)
        (filter (is_unheld account maildir) (zip more (texts_by dones))))
        → files_in account task replies ++ files_of account dones ≡ map (file_for account)
        (filter (is_unheld account maildir) (zip ms (map text_found (found_for task replies ++ found_by dones))))
    by (stores number uid) (reply ∷ []) (q ∷ ms) is right are ih = grind (arith, are, ih ms, right.0)
    by (rereads number uid) (reply ∷ []) (q ∷ ms) is right are ih = grind (arith, are, ih ms, right.0)
    by task replies ms is right are ih = grind (arith, are, is, ih ms)

-- ---- a plan that fetches what is wanted, as far as it was done

pub same_length : (dones : List Done) → AllByRecursion IsAnswered dones → length (fetched_by (tasks_of dones)) ≡ count dones
same_length dones answered = omega (arith, simp length-map at (ap (λ l. length l) (found_all dones answered).0))

-- the rows once these were done
abbrev pub rows_after : Inputs → List Done → List Row
rows_after p dones = marked_all (rows_on p) (ids_ahead (tasks_of dones))

-- an id is recorded once these were done
abbrev pub IsRecorded : Inputs → List Done → List ℕ → Type 0
IsRecorded p dones uid = is_delivered (rows_after p dones) uid ≡ true

-- a list of done tasks, and those of the plan after it
pub record Part (p : Inputs) (dones : List Done) : Type 0 where
  pub laws : Below
  pub rest : List Task
  pub split : ahead_on p ≡ tasks_of dones ++ rest
  pub answered : AllByRecursion IsAnswered dones

-- ---- marks that change nothing

all_mapped : {X Y : Type 0} (P : Y → Type 0) (f : X → Y) → ((x : X) → P (f x)) → (xs : List X) → AllByRecursion P (map f xs)
all_mapped P f _ [] = tt
all_mapped P f each (x ∷ xs) = (each x, all_mapped P f each xs)

-- the rows of the id are delivered
abbrev IsSettled : List ℕ → Row → Type 0
IsSettled uid row = is_of uid row ≡ true → row.delivered ≡ true

settled_stays : (rows : List Row) (uid : List ℕ) → AllByRecursion (IsSettled uid) rows → marked rows uid ≡ rows
settled_stays [] _ settled = refl
settled_stays (_ ∷ rows) uid settled = grind (arith, settled.0, settled_stays rows uid settled.1)

settled_marked : (uid other : List ℕ) (rows : List Row) → AllByRecursion (IsSettled uid) rows
    → AllByRecursion (IsSettled uid) (marked rows other)
settled_marked _ _ [] settled = tt
settled_marked _ _ (_ ∷ rows) settled = (λ same. or_left _ _ (settled.0 same), settled_marked _ _ rows settled.1)

-- after the merge the rows of an id that is listed and held are delivered
held_settled : Below → (p : Inputs) (uid : List ℕ) → has_item p.items uid ≡ true
    → is_held p.account p.maildir uid ≡ true → AllByRecursion (IsSettled uid) (rows_on p)
held_settled laws p uid listed held =
    let flags : List Bool = flags_of p.account p.maildir p.items in
    let new_row : List ℕ → Row = λ id. record { uid = id; first_seen = p.now; delivered = is_flagged p.items flags id } in
    let flagged : is_flagged p.items flags uid ≡ true = rw (laws.flags p.account p.maildir p.items uid, listed) held in
    all_append _ _ _ (all_mapped _ (λ (row : Row). with_delivered (is_flagged p.items flags row.uid) row)
    (λ row same. or_right row.delivered _ (rw (← bytes_same uid row.uid same) flagged)) p.rows)
    (all_mapped (IsSettled uid) new_row (λ id same. rw (← bytes_same uid id same) flagged) (new_ids p.rows p.items))

-- so marking what was stored is marking all that was fetched
marks_by : (p : Inputs) (tasks : List Task) (rows : List Row)
    → ((uid : List ℕ) → has_item p.items uid ≡ true → is_held p.account p.maildir uid ≡ true
    → AllByRecursion (IsSettled uid) rows) → AllByRecursion (IsRightOn p) tasks
    → marked_all rows (ids_ahead tasks) ≡ marked_all rows (map (λ (found : ℕ × List ℕ). found.1) (fetched_by tasks))
marks_by p [] rows settled _ = refl
marks_by p (stores number _ ∷ tasks) rows settled right = marks_by p tasks _
    (λ _ listed held. settled_marked _ _ _ (settled _ listed held)) right.1
marks_by p (rereads number uid ∷ tasks) rows settled ((held, listed), right) =
    rw (settled_stays rows uid (settled uid listed held)) (marks_by p tasks _ settled right)
marks_by p (_ ∷ tasks) rows settled right = marks_by p tasks _ settled right.1

-- ---- what is recorded as delivered

marked_delivered : Below → (rows : List Row) (ids : List (List ℕ)) → AllByRecursion (λ (uid : List ℕ). has_row rows uid ≡ true) ids
    → AllByRecursion (λ (uid : List ℕ). is_delivered (marked_all rows ids) uid ≡ true) ids
marked_delivered _ rows [] _ = tt
marked_delivered laws rows (id ∷ ids) all = (
  marks_stay laws (marked rows id) ids id (rw (laws.marks rows id id, all.0, bytes_self id) (or_right (is_delivered rows id) _ refl)),
  marked_delivered laws (marked rows id) ids (all_map ids all.1 (λ other has. rw (laws.keeps rows id other) has)),
)

-- each stored id has a row after the merge
stored_has_row : Below → (p : Inputs) (tasks : List Task) → AllByRecursion (IsRightOn p) tasks
    → AllByRecursion (λ (uid : List ℕ). has_row (rows_on p) uid ≡ true) (ids_ahead tasks)
stored_has_row _ p [] _ = tt
stored_has_row laws p (stores number uid ∷ tasks) ((_, listed), right) = (
  rw (laws.listed p.rows p.items (flags_of p.account p.maildir p.items) p.now uid, listed) (or_right _ _ refl),
  stored_has_row laws p tasks right,
)
stored_has_row laws p (_ ∷ tasks) right = stored_has_row laws p tasks right.1

-- ---- deletions

-- what was deleted, and what one more task is to delete
pub safe_front : (D : List ℕ → Type 0) (items : List Item) (tasks : List Task) (next : Option Task) (later : List Task)
    → Safe D items (tasks ++ (option_to_list next ++ later)) → AllByRecursion D (ids_ahead tasks)
    → AllByRecursion D (deleted_by items (tasks ++ option_to_list next))
safe_front D items [] (Some (deletes number)) later safe _ = all_append D _ [] safe.0 tt
safe_front D items [] next later _ _ = search rules
safe_front D items (stores number _ ∷ tasks) next later safe all = safe_front D _ tasks _ _ (safe all.0) all.1
safe_front D items (deletes number ∷ tasks) next later safe all = all_append D _ _ safe.0 (safe_front D _ tasks _ _ safe.1 all)
safe_front D items (_ ∷ tasks) next later safe all = safe_front D _ tasks _ _ safe all

right_front : (p : Inputs) (front rest : List Task) → ahead_on p ≡ front ++ rest → AllByRecursion (IsRightOn p) front
right_front p front rest split = all_front _ _ _ (rw split at (fit_ahead (λ _. Unit {0}) p (λ _ _. tt) (λ _ _ _. tt)).0)

pub wanted_are : Below → (p : Inputs) → fetched_by (ahead_on p) ≡ map key (messages_on p)
wanted_are laws p =
    simp (
      tasks_are,
      flat_map-append,
      append-nil,
      fetched_plan,
      laws.plans p.settings (odd_on p) (rows_on p) p.items p.now,
    )

module _ {p : Inputs} {dones : List Done} (part : Part p dones) where
  pub right_part : AllByRecursion (IsRightOn p) (tasks_of dones)
  right_part = right_front p _ _ part.split

  -- what was begun to be deleted is recorded
  safe_part : (next : Option Task) (later : List Task) → part.rest ≡ option_to_list next ++ later
      → AllByRecursion (IsRecorded p dones) (deleted_by p.items (tasks_of dones ++ option_to_list next))
  safe_part next later rest =
      let stay = marks_stay part.laws _ (ids_ahead (tasks_of dones)) in
      let known : (uid : List ℕ) → has_item p.items uid ≡ true → is_held p.account p.maildir uid ≡ true
      → is_delivered (rows_on p) uid ≡ true =
      λ uid listed held. grind (
        arith,
        part.laws.merges p.rows p.items (flags_of p.account p.maildir p.items) p.now uid,
        part.laws.flags p.account p.maildir p.items uid,
        listed,
        held,
      ) in
      safe_front _ _ (tasks_of dones) next later (rw (part.split, rest) at (fit_ahead (IsRecorded p dones) p stay
      (λ uid listed held. stay uid (known uid listed held))).1) (marked_delivered part.laws (rows_on p) (ids_ahead (tasks_of dones))
      (stored_has_row part.laws p (tasks_of dones) right_part))

  -- the tasks so far fetched the first of the wanted messages
  fetched_part : fetched_by (tasks_of dones) ≡ map key (take (count dones) (messages_on p))
  fetched_part =
      let all : fetched_by (tasks_of dones) ++ fetched_by part.rest ≡ map key (messages_on p) =
      simp (← flat_map-append, ← part.split, wanted_are part.laws) in
      rw (← take-map, ← all)
      (sym (take_at (fetched_by (tasks_of dones)) (fetched_by part.rest) (count dones) (same_length _ part.answered)))

  -- the record is the merged one, with the first of the wanted messages marked
  pub records_part : rows_after p dones ≡ marked_all (rows_on p) (ids_wanted (take (count dones) (messages_on p)))
  records_part = marks_by p _ _ (held_settled part.laws p) right_part ∙ simp (fetched_part, map-map)

  pub files_part : files_of p.account dones ≡ map (file_for p.account)
      (filter (is_unheld p.account p.maildir) (zip (take (count dones) (messages_on p)) (texts_by dones)))
  files_part = files_by p.account p.maildir p.items _ _ part.answered right_part fetched_part

-- ---- what a session leaves

abbrev pub is_ended : Result (Unit {0}) Cut → Bool
is_ended (Ok _) = true
is_ended (Err _) = false

-- the tasks of the plan begin with its rows
pub record Starts (p : Inputs) (tasks : List Task) (old : Scene) : Type 0 where
  pub laws : Below
  pub tasks_are : tasks ≡ ahead_on p
  pub rows : old.rows ≡ rows_on p
  pub steady : Steady old.file.content (none_open old.rows)

-- equal, or one less, and then this holds
abbrev pub IsOrLess : ℕ → ℕ → Type 0 → Type 0
IsOrLess n m Then = (n ≡ m) ⊎ ((n + 1 ≡ m) × Then)

pub or_less : {n m : ℕ} {Then : Type 0} → IsOrLess n m Then → (n ≡ m) ⊎ (n + 1 ≡ m)
or_less = ⊎_map (λ same. same) (λ less. less.0)

-- of a course: `full` was retrieved, `taken` is in the report, and `noted` was recorded; at most one more task was
-- begun
pub record Tally (p : Inputs) (result : Result (Unit {0}) Cut) (c : Course) (full noted : List Done) (refused : Type 0) : Type 0 where
  pub found : found_of c ≡ found_by full
  pub whole : Part p full
  pub part : Part p noted
  pub number : IsOrLess (count c.taken) (count full) refused
  pub mark : IsOrLess (count noted) (count c.taken) (IsUnsaved (outcome_of result))
  pub next : Option Task
  pub later : List Task
  pub begun : tasks_of c.taken ++ c.under ≡ tasks_of noted ++ option_to_list next
  pub rest : part.rest ≡ option_to_list next ++ later
  pub ends : is_ended result ≡ true → (count c.taken ≡ length (messages_on p)) × (count noted ≡ length (messages_on p))

pub not_ended : {P : Type 0} → false ≡ true → P
not_ended never = absurd cc

module _ {p : Inputs} where
  module _ {result : Result (Unit {0}) Cut} {c : Course} {full noted : List Done} {refused : Type 0}
      (t : Tally p result c full noted refused) where
    pub tally_right : AllByRecursion (IsRightOn p) (tasks_of c.taken ++ c.under)
    tally_right = rw t.begun (right_front p (tasks_of noted ++ option_to_list t.next) t.later
        (rw (append_assoc (tasks_of noted) (option_to_list t.next) t.later, ← t.rest) t.part.split))

    pub tally_begun : AllByRecursion (IsRecorded p noted) (deleted_by p.items (tasks_of c.taken ++ c.under))
    tally_begun = rw t.begun (safe_part t.part t.next t.later t.rest)

    pub tally_numbers : map found_number (found_of c) ≡ map number_of (take (length (found_of c)) (messages_on p))
    tally_numbers = rw t.found ((found_all _ t.whole.answered).0 ∙ simp (fetched_part t.whole, map-map))

    pub tally_number : length (map text_found (found_of c)) ≡ count full
    tally_number = rw t.found (length-map (found_by full) text_found)

  -- what was begun was done and recorded
  pub tally_recorded : {result : Result (Unit {0}) Cut} {refused : Type 0} {dones : List Done} → Part p dones
      → (is_ended result ≡ true → count dones ≡ length (messages_on p)) → Tally p result (course p.items dones [] []) dones dones refused
  tally_recorded {dones = dones} part ends = record {
    found = append-nil (found_by dones);
    whole = part;
    part = part;
    number = inl refl;
    mark = inl refl;
    next = None;
    later = part.rest;
    begun = refl;
    rest = refl;
    ends = λ is. (ends is, ends is);
  }

  -- nothing was done
  pub tally_none : {cut : Cut} {refused : Type 0} → Below → Tally p (Err cut) (course p.items [] [] []) [] [] refused
  tally_none laws = tally_recorded (record { laws = laws; rest = ahead_on p; split = refl; answered = tt }) not_ended

  module _ {target : Target} {tasks : List Task} {old : Scene} (starts : Starts p tasks old) where
    pub mid_rows : {dones : List Done} {mid : Scene} → Went target dones old mid → mid.rows ≡ rows_after p dones
    mid_rows {dones} went = rw (flat_map-map ids_in task_in dones) (went.rows ∙ ap (λ r. marked_all r (marked_ids dones)) starts.rows)

    pub mid_keeps : {dones : List Done} {mid : Scene} → Went target dones old mid → Keeps mid.file.content (none_open (rows_after p dones))
    mid_keeps {mid = mid} went =
        rw (← mid_rows went) (starts.laws.steady mid.file.content (none_open mid.rows) (went.saved starts.steady))

    -- all went well
    module _ {new : Scene} (all : AllWent target tasks old new) where
      abbrev pub part_all : Part p all.dones
      part_all = record {
        laws = starts.laws;
        rest = [];
        split = sym starts.tasks_are ∙ all.all ∙ sym (append-nil (tasks_of all.dones));
        answered = all.went.each;
      }

      pub tally_all : {done : Unit {0}} {refused : Type 0} → Tally p (Ok done) (course p.items all.dones [] []) all.dones all.dones refused
      tally_all = tally_recorded part_all (λ _. sym (same_length _ all.went.each)
          ∙ rw (← all.all, starts.tasks_are, wanted_are starts.laws) (length-map (messages_on p) key))

    -- ---- where the tasks stopped

    module _ {cut : Cut} {new : Scene} (fell : Fell target tasks old cut new) where
      abbrev pub part_done : Part p fell.dones
      part_done = record {
        laws = starts.laws;
        rest = fell.next ∷ fell.later;
        split = sym starts.tasks_are ∙ fell.split;
        answered = fell.went.each;
      }

      -- the next task was begun, and not recorded
      tally_fell : {refused : Type 0} (c : Course) {full : List Done} → found_of c ≡ found_by full
          → Part p full → IsOrLess (count c.taken) (count full) refused
          → IsOrLess (count fell.dones) (count c.taken) (IsUnsaved (WasCut cut.fault))
          → tasks_of c.taken ++ c.under ≡ tasks_of fell.dones ++ fell.next ∷ [] → Tally p (Err cut) c full fell.dones refused
      tally_fell c found whole number mark begun = record {
        found = found;
        whole = whole;
        part = part_done;
        number = number;
        mark = mark;
        next = Some fell.next;
        later = fell.later;
        begun = begun;
        rest = refl;
        ends = not_ended;
      }

      -- it retrieved no text
      pub tally_no_line : {refused : Type 0}
          → Tally p (Err cut) (course p.items fell.dones [] (fell.next ∷ [])) fell.dones fell.dones refused
      tally_no_line = tally_fell _ (rw nothing_found (append-nil (found_by fell.dones))) part_done (inl refl) (inl refl) refl

      -- the next task retrieved a text
      module _ {number : ℕ} {uid : List ℕ} {reply : WholeReply} (is : fell.next ≡ stores number uid) {from to : Place}
          (talked : Talked (retr number ∷ []) (reply ∷ []) from to) where
        abbrev full : List Done
        full = fell.dones ++ stored_done number uid reply ∷ []

        full_tasks : tasks_of full ≡ tasks_of fell.dones ++ fell.next ∷ []
        full_tasks = rw is (map-append task_in fell.dones (stored_done number uid reply ∷ []))

        part_full : Part p full
        part_full = record {
          laws = starts.laws;
          rest = fell.later;
          split = rw full_tasks (part_done.split ∙ sym (append_assoc (tasks_of fell.dones) (fell.next ∷ []) fell.later));
          answered = all_append IsAnswered fell.dones (stored_done number uid reply ∷ []) fell.went.each (talked.good, tt);
        }

        pub full_found : found_by full ≡ found_by fell.dones ++ (number, body_text reply.body) ∷ []
        full_found = flat_map-append (λ d. found_for d.task d.replies) fell.dones (stored_done number uid reply ∷ [])

        one_found : count fell.dones + 1 ≡ count full
        one_found = simp (full_found, length-append)

        -- its text isn't in the report
        pub tally_spare : {refused : Type 0} → refused
            → Tally p (Err cut) (course p.items fell.dones (reply ∷ []) (fell.next ∷ [])) full fell.dones refused
        tally_spare refuses = tally_fell _ (rw is (sym full_found)) part_full (inr (one_found, refuses)) (inl refl) refl

        -- its text is in the report, and the record is one of two
        pub tally_old : {refused : Type 0} → IsUnsaved (WasCut cut.fault)
            → Tally p (Err cut) (course p.items full [] []) full fell.dones refused
        tally_old less = tally_fell _ (append-nil (found_by full)) part_full (inl refl) (inr (one_found, less))
            (append-nil (tasks_of full) ∙ full_tasks)

        pub tally_new : {refused : Type 0} → Tally p (Err cut) (course p.items full [] []) full full refused
        tally_new = tally_recorded part_full not_ended

        last_mark : (r : List Row) (ids : List (List ℕ)) → marked (marked_all r ids) uid ≡ marked_all r (ids ++ uid ∷ [])
        last_mark r [] = refl
        last_mark r (id ∷ ids) = last_mark (marked r id) ids

        pub full_rows : marked fell.mid.rows uid ≡ rows_after p full
        full_rows = rw (mid_rows fell.went, map-append, flat_map-append) (last_mark (rows_on p) (ids_ahead (tasks_of fell.dones)))
