-- How far a session came after its listing, and what it sent and read then: the turns of its tasks, their commands and
-- replies, and what the link gained, for each way in which the tasks may end.
use Rattle.std.{
  proofs.Common.{◌≡◌, inl, inr, ℕ, List, ◌∷◌, ◌++◌, map, Result, Ok, Err, ◌⊎◌, true, None, Some, refl, sym, ap, ◌∙◌, append_assoc, ◌<◌, []},
  proofs.Common.{◌^◌, Bool, Option, ◌≤◌, ◌+◌, length, arith, rules, cond},
  proofs.lemmas.List.{append-nil, append_cancel_left, map-append, Concat.flat_map-append, Folds.flat_map-map, Sums.sum_by-append},
  proofs.lemmas.Bool.true≢false,
  specs.{List.{flat_map, count_by, AllByRecursion, AllZip, enumerate_from}, Prelude.{◌-◌, slice_get, option_to_list}},
}
use Rattle.pop3_wire.specs.{
  Link.Link,
  declared.command.Command.{Command, TheVariants.{Retr, Dele}},
  Line.ended,
  CommandLine.HasNumbers,
  Body.Body,
  Place.{Place, at},
  Reading.{WholeReply, body_bytes, has_body, IsBodyIf},
  Commands.{line_of, can_be_sent, octets_of},
  Honest.{HasSent, BeginsNext},
}
use Rattle.pop3_client.specs.{
  Texts.body_text,
  declared.fault.ClientFault.ClientFault,
  Turns.{Turn, asking, retr, dele, quit, IsBody, IsGood, turn_bytes},
  Conversation.{Talked, Talks, Broke, IsFrontOfNext},
}
use Rattle.mail_terms.specs.Listing.{Item}
use Rattle.rc_file.specs.declared.settings.Settings.{Settings}
use Rattle.mail_store.specs.{FileName.stem_of, FlatFile.Stored}
use Rattle.session_parts.specs.{
  declared.fault.{Cut.Cut, Fault.TheVariants.StoreRefused},
  declared.report.{ReportLine.ReportLine, Skips.Skips, Outcome.{Outcome, TheVariants.{Ended, Cut as WasCut}}, Report.Report},
  Task.{Task, stores, rereads, deletes, Done, tasks_of, says, skips, turns_in, turns_of, replies_of, IsAnswered, tasks_planned, task_in},
  Task.{report_lines, delivered},
  Store.RefusesText,
  Fault.fault_of,
  CarryingOut.{tasks_ahead, Carried, Carries},
  Scene.{Scene, Fell, NoFile, Stops, Does},
  Session.{Keeping, Noted, Dealt, Proceeds, SessionIn, outcome_of},
  Target.{Target, AsFiles, AsEntries, Stores, odd_in},
  Tail.{tail, turns_of_tail as tail_turns, TalksTailBy, TalksTail, WentOn},
}
use Rattle.fetch_runs.{
  specs.{Sessions.{BeginsOne, AreGood, Retrieves, Effect, tail_behind, is_retr}, Conversations.{SentBehind, Conversation}, Below.Below},
  proofs.Lists.{all_append, both_none},
}
use Rattle.fetch_record.specs.Record.{Row}
use Rattle.fetch_rules.specs.{Plan.step_of, declared.plans.Step.Step}
use mathlib.Core.Logic.{⊎_map}
use Rattle.session_parts.specs.declared.fault.Why.TheVariants as why

-- the joined listing; the tasks that were completed, whatever happened to the record's file; the task that
-- was begun and not completed, if there is one; and the reply to that task, if its text may be stored
pub record Course : Type 0 where
  pub items : List Item
  pub taken : List Done
  pub spare : List WholeReply
  pub under : List Task

abbrev pub course : List Item → List Done → List WholeReply → List Task → Course
course items taken spare under = record { items = items; taken = taken; spare = spare; under = under }

-- a session that never dealt with a listing, or one that did
pub data SessionCourse : Type 0 where
  Idle : SessionCourse
  Deals : Course → SessionCourse

-- a text that was stored, though its id may not be recorded
abbrev pub stored_done : ℕ → List ℕ → WholeReply → Done
stored_done number uid reply = record { task = stores number uid; replies = reply ∷ [] }

-- the reply with a text that the store refused, if its file may be there
abbrev pub spare_in : {account : List ℕ} {next : Task} {old new : Scene} {cut : Cut} (refused : NoFile account next old new cut)
    → RefusesText old.store.maildir (stem_of account refused.uid) refused.rest refused.text cut.fault new.store.maildir → List WholeReply
spare_in _ (inl _) = []
spare_in _ (inr (_, inl _)) = []
spare_in refused (inr (_, inr (done, (_, there)))) = (refused.whole done).0 ∷ []

abbrev pub course_stopped : (target : Target) (items : List Item) (dones : List Done) (next : Task) (mid new : Scene)
    (cut : Cut) → Stops target next mid cut new → Course
course_stopped _ items dones next _ _ _ (inl _) = course items dones [] (next ∷ [])
course_stopped (AsFiles _) items dones next _ _ _ (inr (inl refused)) = course items dones (spare_in refused refused.refuses) (next ∷ [])
course_stopped (AsFiles _) items dones _ _ _ _ (inr (inr unsaved)) =
    course items (dones ++ stored_done unsaved.number unsaved.uid unsaved.reply ∷ []) [] []
course_stopped AsEntries items dones next _ _ _ (inr (inl (inl _))) = course items dones [] (next ∷ [])
course_stopped AsEntries items dones next _ _ _ (inr (inl (inr (inl refused)))) = course items dones (refused.reply ∷ []) (next ∷ [])
course_stopped AsEntries items dones _ _ _ _ (inr (inl (inr (inr _)))) = course items dones [] []
course_stopped AsEntries items dones _ _ _ _ (inr (inr unsaved)) =
    course items (dones ++ stored_done unsaved.number unsaved.uid unsaved.reply ∷ []) [] []

abbrev pub course_does : (target : Target) (items : List Item) (tasks : List Task) (old new : Scene)
    (result : Result (Unit {0}) Cut) → Does target tasks old result new → Course
course_does _ items _ _ _ (Ok done) went = course items went.dones [] []
course_does target items _ _ new (Err cut) fell = course_stopped target items fell.dones fell.next fell.mid new cut fell.stops

abbrev pub course_carried : {settings : Settings} {target : Target} {items : List Item} {now : ℕ} {place : Place}
    {store : Stores} {file : Stored} {lines : List ReportLine} {result : Result (Unit {0}) Cut} {new : Scene} {skipped : Skips}
    → Carried settings target items now place store file lines result new skipped → Course
course_carried {settings} {target} {items} {now} {store = store} {result = result} {new} is =
    course_does target items (tasks_ahead settings target items now store is.mid.rows) is.mid new result is.does

abbrev pub course_carries : (settings : Settings) (target : Target) (items : List Item) (now : ℕ) (place : Place)
    (store : Stores) (file : Stored) (lines : List ReportLine)
    (result : Result (Unit {0}) Cut) (place' : Place) (store' : Stores) (file' : Stored) (lines' : List ReportLine) (skipped : Skips)
    → Carries settings target items now place store file lines result place' store' file' lines' skipped → Course
course_carries _ _ _ _ _ _ _ _ (Ok _) _ _ _ _ _ is = course_carried is.1
course_carries _ _ items _ _ _ _ _ (Err _) _ _ _ _ _ (_, inl _) = course items [] [] []
course_carries _ _ _ _ _ _ _ _ (Err _) _ _ _ _ _ (_, inr is) = course_carried is

abbrev pub course_dealt : {settings : Settings} {target : Target} {now : ℕ} {old : Place} {before : Keeping}
    {result : Result (Unit {0}) Cut} {new : Place} {after : Keeping} {notes : Noted}
    → Dealt settings target now old before result new after notes → Course
course_dealt {settings} {target} {now} {before = before} {result} {new} {after} {notes} dealt =
    course_carries settings target dealt.items now dealt.mid before.store before.file [] result new after.store
    after.file notes.lines notes.skipped dealt.carries

abbrev pub course_proceeded : (settings : Settings) (target : Target) (now : ℕ) (old : Place) (before : Keeping)
    (result : Result (Unit {0}) Cut) (new : Place) (after : Keeping) (notes : Noted)
    → Proceeds settings target now old before result new after notes → SessionCourse
course_proceeded _ _ _ _ _ (Ok _) _ _ _ dealt = Deals (course_dealt dealt)
course_proceeded _ _ _ _ _ (Err _) _ _ _ (inl _) = Idle
course_proceeded _ _ _ _ _ (Err _) _ _ _ (inr (inl _)) = Idle
course_proceeded _ _ _ _ _ (Err _) _ _ _ (inr (inr dealt)) = Deals (course_dealt dealt)

abbrev pub course_of : {settings : Settings} {target : Target} {now : ℕ} {link link' : Link} {before after : Keeping} {report : Report}
    → SessionIn settings target now link before report link' after → SessionCourse
course_of {settings} {target} {now} {link} {before = before} {after} session =
    course_proceeded settings target now (at link []) before session.result session.mid after session.notes session.proceeds

-- ---- what was retrieved

-- the number and the text of each reply to a task's RETR
abbrev pub found_for : Task → List WholeReply → List (ℕ × List ℕ)
found_for (stores number _) replies = map (λ (reply : WholeReply). (number, body_text reply.body)) replies
found_for (rereads number _) replies = map (λ (reply : WholeReply). (number, body_text reply.body)) replies
found_for _ replies = []

abbrev pub found_by : List Done → List (ℕ × List ℕ)
found_by dones = flat_map (λ (d : Done). found_for d.task d.replies) dones

-- all that was retrieved
abbrev pub found_of : Course → List (ℕ × List ℕ)
found_of course = found_by course.taken ++ flat_map (λ (task : Task). found_for task course.spare) course.under

-- the tasks that were begun
abbrev pub begun_of : Course → List Task
begun_of course = tasks_of course.taken ++ course.under

-- one of these tasks asks for the DELE; for a RETR there is some task
abbrev pub IsOfTask : List Task → Command → Type 0
IsOfTask tasks (Dele number) = (front behind : List Task) × (tasks ≡ front ++ deletes number ∷ behind)
IsOfTask tasks (Retr _) = (front : List Task) × (task : Task) × (behind : List Task) × (tasks ≡ front ++ task ∷ behind)
IsOfTask _ _ = Unit {0}

-- the ids of the messages that tasks delete
abbrev pub deleted_in : List Item → Task → List (List ℕ)
deleted_in items (deletes number) = map (λ (item : Item). item.uid) (option_to_list (slice_get items (number - 1)))
deleted_in items _ = []

abbrev pub deleted_by : List Item → List Task → List (List ℕ)
deleted_by items tasks = flat_map (deleted_in items) tasks

abbrev pub found_number : ℕ × List ℕ → ℕ
found_number found = found.0

abbrev pub text_found : ℕ × List ℕ → List ℕ
text_found found = found.1

abbrev pub number_of : ℕ × Item → ℕ
number_of message = message.0

-- the parts of a session that the law over accounts uses
abbrev pub effect_of : ℕ → Bool → Course → Effect
effect_of now ended course = record {
  now = now;
  listing = course.items;
  texts = map text_found (found_of course);
  begun = deleted_by course.items (begun_of course);
  ended = ended;
}

-- ---- The commands in a conversation's octets.

-- the command of a turn, if it has one
abbrev pub said_in : Turn → List Command
said_in None = []
said_in (Some command) = command ∷ []

abbrev pub commands_in : List Turn → List Command
commands_in turns = flat_map said_in turns

-- the turn's command can be sent
abbrev pub CanBeSaid : Turn → Type 0
CanBeSaid None = Unit {0}
CanBeSaid (Some command) = (can_be_sent command ≡ true) × HasNumbers command

-- if there are no octets, any commands may be next
pub begins_any : (next : List Command) (part : List ℕ) → part ≡ [] → BeginsNext next part
begins_any [] _ e = e
begins_any (command ∷ _) _ e = (ended (line_of command), ap (λ l. l ++ ended (line_of command)) (sym e))

pub octets_same : (turns : List Turn) → asking turns ≡ octets_of (commands_in turns)
octets_same [] = refl
octets_same (None ∷ turns) = octets_same turns
octets_same (Some command ∷ turns) = ap (λ l. ended (line_of command) ++ l) (octets_same turns)

-- they can be sent, and their numbers fit
pub can_in : (turns : List Turn) → AllByRecursion CanBeSaid turns
    → AllByRecursion (λ command. can_be_sent command ≡ true) (commands_in turns) × AllByRecursion HasNumbers (commands_in turns)
can_in [] all = (tt, tt)
can_in (None ∷ turns) all = can_in turns all.1
can_in (Some _ ∷ turns) ((said, numbers), all) =
    let (all_said, all_numbers) = can_in turns all in ((said, all_said), (numbers, all_numbers))

-- octets after which the next of these commands may have been begun
abbrev Spoken : List Command → List Command → List ℕ → Type 0
Spoken commands next sent = (asked : HasSent commands sent) × BeginsNext next asked.part

-- the command that was begun may be the first of these
pub begins_one : (Is : Command → Type 0) (next : List Command) (part : List ℕ) → BeginsNext next part
    → AllByRecursion Is next → BeginsOne Is part
begins_one Is [] _ none all = inl none
begins_one Is (command ∷ _) _ (unsent, is) all = inr (command, unsent, is, all.0)

pub begins_weaker : {Is Other : Command → Type 0} → ((command : Command) → Is command → Other command) → (part : List ℕ)
    → BeginsOne Is part → BeginsOne Other part
begins_weaker on _ = ⊎_map (λ none. none) (λ (command, unsent, is, holds). (command, unsent, is, on _ holds))

-- the commands that were sent whole: those of the completed turns, of the one that was begun, and of the tail
pub record Commanded (done begun tail : List Turn) (sent : List ℕ) : Type 0 where
  pub ahead : List Command
  pub unsaid : List Command
  pub ends : List Command
  pub unended : List Command
  pub of_begun : commands_in begun ≡ ahead ++ unsaid
  pub of_tail : commands_in tail ≡ ends ++ unended
  pub asked : HasSent (commands_in done ++ (ahead ++ ends)) sent
  pub begins : BeginsNext unsaid asked.part ⊎ BeginsNext unended asked.part

-- commands after others
spoken_behind : (turns : List Turn) (more next : List Command) (octets : List ℕ) → AllByRecursion CanBeSaid turns
    → Spoken more next octets → Spoken (commands_in turns ++ more) next (asking turns ++ octets)
spoken_behind turns more _ octets can (asked, begins) =
    let whole : asking turns ++ octets ≡ octets_of (commands_in turns ++ more) ++ asked.part =
    rw (octets_same, asked.whole) (simp (flat_map-append, append_assoc)) in
    let now : HasSent (commands_in turns ++ more) (asking turns ++ octets) =
    search (
      whole,
      asked.no_line,
      all_append (λ (command : Command). can_be_sent command ≡ true) (commands_in turns) more (can_in turns can).0 asked.sendable,
      all_append HasNumbers (commands_in turns) more (can_in turns can).1 asked.numbers,
    ) in
    (now, begins)

pub commanded : Below → {done begun tail : List Turn} {replies : List WholeReply} {sent got : List ℕ} → AllByRecursion CanBeSaid done
    → AllByRecursion CanBeSaid begun → AllByRecursion CanBeSaid tail → Conversation done replies begun tail sent got
    → Commanded done begun tail sent
commanded laws {done} {begun} {tail} d b t said = rw said.said (by said.sent_behind)
  where
    by : SentBehind begun tail said.behind → Commanded done begun tail (asking done ++ said.behind)
    by (inl (later, front)) =
        let some = laws.asked (commands_in begun) said.behind later (can_in begun b).0 (can_in begun b).1
        (sym (octets_same begun) ∙ front) in
        let all = spoken_behind done (some.0 ++ []) some.1 said.behind d (rw append-nil (some.3, some.4)) in
        record {
          ahead = some.0;
          unsaid = some.1;
          ends = [];
          unended = commands_in tail;
          of_begun = some.2;
          of_tail = refl;
          asked = all.0;
          begins = inl all.1;
        }
    by (inr (part, later, front, whole)) =
        let some = laws.asked (commands_in tail) part later (can_in tail t).0 (can_in tail t).1 (sym (octets_same tail) ∙ front) in
        let all = spoken_behind done (commands_in begun ++ some.0) some.1 said.behind d
        (rw whole (spoken_behind begun some.0 some.1 part b (some.3, some.4))) in
        record {
          ahead = commands_in begun;
          unsaid = [];
          ends = some.0;
          unended = some.1;
          of_begun = sym (append-nil _);
          of_tail = some.2;
          asked = all.0;
          begins = inr all.1;
        }

-- ---- The replies of a conversation, as the law over accounts reads them.

-- a turn that sends a command
abbrev pub IsCommand : Turn → Type 0
IsCommand None = ⊥
IsCommand (Some _) = Unit {0}

body_read : (command : Command) (body : Option (List (List ℕ))) → IsBody (Some command) body → IsBodyIf (has_body command) body
body_read _ None none = rw none tt
body_read (Retr _) (Some _) is = is.0
body_read _ (Some lines) is = search rules

-- the replies to turns that send commands are whole and positive ones to these commands
pub replies_read : (turns : List Turn) (replies : List WholeReply) (more : List Command)
    → AllByRecursion IsCommand turns → AllZip IsGood turns replies → AreGood (commands_in turns ++ more) replies
replies_read [] [] _ all _ = tt
replies_read (Some command ∷ turns) (reply ∷ replies) more all good = (
  record { rest = good.0.rest; line = good.0.line; positive = good.0.positive; body = body_read command reply.body good.0.body },
  replies_read turns replies more all.1 good.1,
)
replies_read turns replies more all good = search rules

-- each RETR was answered
pub each_found : (turns : List Turn) (replies : List WholeReply) (found : List (ℕ × List ℕ))
    → AllByRecursion IsCommand turns → AllZip IsGood turns replies → Retrieves (commands_in turns) replies found
    → length found ≡ count_by is_retr (commands_in turns)
each_found [] [] _ all _ none = rw none refl
each_found (Some (Retr number) ∷ turns) (_ ∷ replies) _ all good (_, more, body, is, later) =
    let one : count_by is_retr (commands_in (Some (Retr number) ∷ turns)) ≡ 1 + count_by is_retr (commands_in turns) =
    sum_by-append (λ (c : Command). cond (is_retr c) 1 0) (Retr number ∷ []) (commands_in turns)
    in rw is (omega (arith, one, each_found turns replies more all.1 good.1 later))
each_found (Some other ∷ turns) (reply ∷ replies) found all good later = omega (arith, each_found turns replies found all.1 good.1 later)
each_found turns replies found all good later = search rules

-- ---- texts

pub text_body : (number : ℕ) (body : Option (List (List ℕ))) → IsBody (retr number) body → Body (body_bytes body) (body_text body)
text_body _ None none = absurd (true≢false none)
text_body _ (Some lines) is = record { lines = lines; content = is.0; whole = refl; read = refl }

-- a task as a plan has it: its number is below 2 ^ 32, and a turn for no message is QUIT
abbrev pub IsTaskOfPlan : Task → Type 0
IsTaskOfPlan (says turn) = turn ≡ quit
IsTaskOfPlan (skips _ _) = Unit {0}
IsTaskOfPlan (stores number _) = number < 2 ^ 32
IsTaskOfPlan (rereads number _) = number < 2 ^ 32
IsTaskOfPlan (deletes number) = number < 2 ^ 32

-- what one task's replies retrieve, before others
read_first : (task : Task) (replies others : List WholeReply) (commands : List Command) (found : List (ℕ × List ℕ))
    → IsTaskOfPlan task → AllZip IsGood (turns_in task) replies → Retrieves commands others found
    → Retrieves (commands_in (turns_in task) ++ commands) (replies ++ others) (found_for task replies ++ found)
read_first (says _) (r ∷ []) _ _ _ is _ later = rw is later
read_first (skips _ _) [] _ _ _ _ _ later = later
read_first (stores number _) (r ∷ []) _ _ found _ good later = (body_text r.body, found, text_body number r.body good.0.body, refl, later)
read_first (rereads number _) (r ∷ []) _ _ found _ good later = (body_text r.body, found, text_body number r.body good.0.body, refl, later)
read_first (deletes _) (r ∷ []) _ _ _ _ _ later = later
read_first task replies others commands found is good later = search rules

-- what the replies to done tasks retrieve, before others
pub dones_read : (dones : List Done) (others : List WholeReply) (commands : List Command) (found : List (ℕ × List ℕ))
    → AllByRecursion IsTaskOfPlan (tasks_of dones) → AllByRecursion IsAnswered dones → Retrieves commands others found
    → Retrieves (commands_in (turns_of dones) ++ commands) (replies_of dones ++ others) (found_by dones ++ found)
dones_read [] _ _ _ _ _ later = later
dones_read (d ∷ dones) others commands found plain answered later =
    simp (flat_map-append, append_assoc) (read_first _ _ _ _ _ plain.0 answered.0 (dones_read dones _ _ _ plain.1 answered.1 later))

pub nothing_found : (task : Task) → found_for task [] ≡ []
nothing_found (stores _ _) = refl
nothing_found _ = refl

-- ---- the tasks of a plan

plain_planned : (steps : List Step) (items : List Item) (held : List Bool)
    → AllByRecursion (λ (s : Step). s.number < 2 ^ 32) steps → AllByRecursion IsTaskOfPlan (tasks_planned steps items held)
plain_planned (s ∷ steps) (i ∷ items) (h ∷ held) small = grind (arith, small.0, plain_planned steps items held small.1)
plain_planned _ items _ _ = tt

small_steps : (f : ℕ × Item → Step) → ((q : ℕ × Item) → (f q).number ≡ q.0) → (n : ℕ) (items : List Item)
    → n + length items ≤ 2 ^ 32 → AllByRecursion (λ (s : Step). s.number < 2 ^ 32) (map f (enumerate_from n items))
small_steps f _ n [] _ = tt
small_steps f same n (item ∷ items) within =
    (omega (arith, same (n, item), within), small_steps f same (n + 1) items (omega (arith, within)))

-- of a listing of at most 100,000 messages
pub plain_ahead : (settings : Settings) (target : Target) (items : List Item) (now : ℕ) (store : Stores)
    (rows : List Row) → length items ≤ 100000 → AllByRecursion IsTaskOfPlan (tasks_ahead settings target items now store rows)
plain_ahead settings target items now store rows few =
    all_append _ _ _ (plain_planned _ _ _ (small_steps (step_of settings (odd_in target store) rows items now) (λ q. refl) 1 items
    (omega (arith, few))))
    (refl, tt)

-- ---- their turns

-- what holds of QUIT, and of RETR and DELE with a small number, holds of the turns of plain tasks
turns_all : (P : Turn → Type 0) → P quit → ((n : ℕ) → n < 2 ^ 32 → P (retr n) × P (dele n)) → (tasks : List Task)
    → AllByRecursion IsTaskOfPlan tasks → AllByRecursion P (flat_map turns_in tasks)
turns_all P _ _ [] _ = tt
turns_all P quits some (says _ ∷ tasks) plain = (rw plain.0 quits, turns_all P quits some tasks plain.1)
turns_all P quits some (_ ∷ tasks) plain = let later = turns_all P quits some tasks plain.1 in grind (arith, some, plain.0, later)

pub said_tasks : (tasks : List Task) → AllByRecursion IsTaskOfPlan tasks → AllByRecursion CanBeSaid (flat_map turns_in tasks)
said_tasks = turns_all _ (refl, tt) (λ n small. ((refl, small), (refl, small)))

pub commands_tasks : (tasks : List Task) → AllByRecursion IsTaskOfPlan tasks → AllByRecursion IsCommand (flat_map turns_in tasks)
commands_tasks = turns_all _ tt (λ n _. (tt, tt))

-- ---- their retrievals and deletions

of_first : (front behind : List Task) (task : Task) (commands : List Command) → IsTaskOfPlan task
    → AllByRecursion (IsOfTask (front ++ task ∷ behind)) commands
    → AllByRecursion (IsOfTask (front ++ task ∷ behind)) (commands_in (turns_in task) ++ commands)
of_first _ behind (says _) _ is later = rw is (tt, rw is at later)
of_first _ behind _ _ _ later = search rules

pub of_tasks : (front tasks : List Task) → AllByRecursion IsTaskOfPlan tasks
    → AllByRecursion (IsOfTask (front ++ tasks)) (commands_in (flat_map turns_in tasks))
of_tasks _ [] _ = tt
of_tasks front (task ∷ tasks) plain =
    rw (flat_map-append said_in (turns_in task) (flat_map turns_in tasks))
    (of_first _ _ task (commands_in (flat_map turns_in tasks)) plain.0 (rw append_assoc at (of_tasks (front ++ task ∷ []) tasks plain.1)))

pub fronted : Below → (turns : List Turn) (old new : Place) (result : Result (Unit {0}) ClientFault)
    → Talks turns old result new → WentOn turns old new
fronted laws turns old new result talks =
    let p = laws.paced turns old new result talks in
    search p

-- what came after turns that were completed
pub record Goes (begun tail : List Turn) (old new : Link) : Type 0 where
  pub gained : List ℕ
  pub got : new.got ≡ old.got ++ gained
  pub behind : List ℕ
  pub sent : new.sent ≡ old.sent ++ behind
  pub sent_behind : SentBehind begun tail behind

-- the tail alone
pub goes_tail : {tail : List Turn} {old new : Place} → WentOn tail old new → Goes [] tail old.link new.link
goes_tail f = search (f, inr)

-- one turn, whole, and the tail
goes_whole : {turn : Turn} {tail : List Turn} {old : Link} {mid new : Place} (gained : List ℕ)
    → mid.link.sent ≡ old.sent ++ turn_bytes turn → mid.link.got ≡ old.got ++ gained → WentOn tail mid new
    → Goes (turn ∷ []) tail old new.link
goes_whole {turn} gained sent got f = record {
  gained = gained ++ f.gained;
  got = rw (f.got, got) (simp append_assoc);
  behind = asking (turn ∷ []) ++ f.said;
  sent = rw (f.sent, sent) (simp (append_assoc, append-nil));
  sent_behind = inr (f.said, f.front.0, f.front.1, refl);
}

-- a part of one turn
goes_part : {turn : Turn} {tail : List Turn} {old : Link} {mid new : Place} (front rest : List ℕ)
    → turn_bytes turn ≡ front ++ rest → mid.link.sent ≡ old.sent ++ front → mid.link.got ≡ old.got → WentOn [] mid new
    → Goes (turn ∷ []) tail old new.link
goes_part {turn} front rest split sent got f = record {
  gained = f.gained;
  got = rw (f.got, got);
  behind = front;
  sent = rw (f.sent, (both_none f.said f.front.0 (sym f.front.1)).0, append-nil) sent;
  sent_behind = inl (rest, append-nil (turn_bytes turn) ∙ split);
}

-- a turn that broke, and the tail for its fault
pub goes_broke : (turn : Turn) (old mid new : Place) (why : ClientFault) → Broke turn old mid why
    → WentOn (tail_turns (tail (fault_of why))) mid new → Goes (turn ∷ []) (tail_turns (tail (fault_of why))) old.link new.link
goes_broke _ _ _ _ why (inl (is, said)) f = goes_part _ _ said.split said.sent said.got (rw is at f)
goes_broke _ _ _ _ why (inr (inl bad)) f = goes_whole _ bad.sent bad.got f
goes_broke turn old _ _ why (inr (inr (is, _, same))) f =
    goes_part [] (turn_bytes turn) refl (rw same (sym (append-nil old.link.sent))) (rw same) (rw is at f)

under_way : (turn : Turn) (tail done rest : List Turn) (part : List ℕ) → turn ∷ tail ≡ done ++ rest → IsFrontOfNext part rest
    → (later : List ℕ) → asking (turn ∷ tail) ≡ (asking done ++ part) ++ later → SentBehind (turn ∷ []) tail (asking done ++ part)
under_way turn tail [] _ _ split begun later _ =
    let next = rw (← split) at begun in
    inl (next.0, append-nil (turn_bytes turn) ∙ next.1)
under_way turn tail (d ∷ done) _ part split begun later front =
    let same : d ≡ turn = cc in
    inr (
      asking done ++ part,
      later,
      append_cancel_left (turn_bytes turn) _ _ (front ∙ rw same (simp append_assoc)),
      rw same (simp (append_assoc, append-nil)),
    )

-- turns that were completed, and what came after them
pub conversation : {done begun tail : List Turn} {replies : List WholeReply} {start there : Place} {link : Link}
    → start.waiting ≡ [] → Talked done replies start there → Goes begun tail there.link link
    → (sent got : List ℕ) × (link.sent ≡ start.link.sent ++ sent) × (link.got ≡ start.link.got ++ got)
    × Conversation done replies begun tail sent got
conversation {done} {there = there} none talked goes = (
  asking done ++ goes.behind,
  talked.gained ++ goes.gained,
  rw (goes.sent, talked.sent) (simp append_assoc),
  rw (goes.got, talked.got) (simp append_assoc),
  record {
    good = talked.good;
    rest = there.waiting ++ goes.gained;
    heard = rw (rw none at talked.heard) (simp append_assoc);
    behind = goes.behind;
    said = refl;
    sent_behind = goes.sent_behind;
  },
)

-- ---- What a link gains after the opening, for each way in which a session's tasks may end.

-- the turns that were completed after the opening, one that was begun, and what the link gained by them and
-- the tail
pub record Took (c : Course) (start : Place) (tail : List Turn) (link : Link) : Type 0 where
  pub done : List Turn
  pub replies : List WholeReply
  pub begun : List Turn
  pub there : Place
  pub talked : Talked done replies start there
  pub goes : Goes begun tail there.link link
  pub all : flat_map turns_in (begun_of c) ≡ done ++ begun
  pub one : (begun ≡ []) ⊎ ((turn : Turn) × (begun ≡ turn ∷ []))
  pub read : (more : List Command) → Retrieves (commands_in done ++ more) replies (found_of c)
  pub each : AllByRecursion IsAnswered c.taken
  pub asks : (done ≡ turns_of c.taken) ⊎ ((number : ℕ) × (done ≡ turns_of c.taken ++ retr number ∷ []) × (begun ≡ [])
      × ((reply : WholeReply) × (c.spare ≡ reply ∷ [])))
  pub whole : c.under ≡ [] → begun ≡ []

-- the turns after a session that ended or was cut
abbrev pub tail_for : Result (Unit {0}) Cut → List Turn
tail_for result = tail_behind (outcome_of result)

-- with a Maildir a text is spare only if the store refused it
abbrev pub IsSpare : List WholeReply → Target → Outcome → Type 0
IsSpare (_ ∷ _) (AsFiles _) outcome = outcome ≡ WasCut (StoreRefused why.Refused)
IsSpare _ _ _ = Unit {0}

-- a course of these messages is a prefix of these tasks, the report's lines are those of the tasks that were taken, and the link
-- gained this
pub record Ahead (target : Target) (items : List Item) (tasks : List Task) (lines lines' : List ReportLine)
    (result : Result (Unit {0}) Cut) (c : Course) (start : Place) (link : Link) : Type 0 where
  pub took : Took c start (tail_for result) link
  pub later : List Task
  pub same_items : c.items ≡ items
  pub split : tasks ≡ begun_of c ++ later
  pub told : lines' ≡ lines ++ report_lines c.taken
  pub spare : IsSpare c.spare target (outcome_of result)
  pub whole : outcome_of result ≡ Ended → (c.under ≡ []) × (later ≡ [])

-- after a cut
pub ahead_cut : {target : Target} {items : List Item} {tasks : List Task} {lines lines' : List ReportLine} {cut : Cut}
    {taken : List Done} {spare : List WholeReply} {under : List Task} {start : Place} {link : Link} (later : List Task)
    → Took (course items taken spare under) start (tail_turns (tail cut.fault)) link
    → tasks ≡ (tasks_of taken ++ under) ++ later → lines' ≡ lines ++ report_lines taken → IsSpare spare target (WasCut cut.fault)
    → Ahead target items tasks lines lines' (Err cut) (course items taken spare under) start link
ahead_cut later took split told spare = record {
  took = took;
  later = later;
  same_items = refl;
  split = split;
  told = told;
  spare = spare;
  whole = λ ended. absurd cc;
}

module _ (laws : Below) (items : List Item) where
  -- the tail after a cut with no reply under way
  pub tailed : (cut : Cut) (there last : Place) → cut.rest ≡ None → TalksTail cut there last
      → WentOn (tail_turns (tail cut.fault)) there last
  tailed cut there last none left = let said = rw none at left in fronted laws _ _ _ said.0 said.1

  -- the turns of these tasks were completed, and perhaps that of one more was begun
  after_dones : (dones : List Done) (under : List Task) {begun tail : List Turn} {first there : Place} {link : Link}
      → flat_map turns_in under ≡ begun → (begun ≡ []) ⊎ ((turn : Turn) × (begun ≡ turn ∷ [])) → (under ≡ [] → begun ≡ [])
      → flat_map (λ (task : Task). found_for task []) under ≡ []
      → Talked (turns_of dones) (replies_of dones) first there → AllByRecursion IsTaskOfPlan (tasks_of dones)
      → AllByRecursion IsAnswered dones → Goes begun tail there.link link → Took (course items dones [] under) first tail link
  after_dones dones under {begun} takes one whole none talked plain each goes =
      let all : flat_map turns_in (tasks_of dones ++ under) ≡ turns_of dones ++ begun = simp (flat_map-append, flat_map-map, takes) in
      let read : (more : List Command) → Retrieves (commands_in (turns_of dones) ++ more) (replies_of dones)
      (found_of (course items dones [] under)) =
      λ more. rw none (rw append-nil at (dones_read _ [] more [] plain each refl)) in
      search (talked, goes, all, one, read, each, whole, inl)

  -- all that was begun was done
  pub all_done : (dones : List Done) {tail : List Turn} {first there : Place} {link : Link}
      → Talked (turns_of dones) (replies_of dones) first there → AllByRecursion IsTaskOfPlan (tasks_of dones)
      → AllByRecursion IsAnswered dones → Goes [] tail there.link link → Took (course items dones [] []) first tail link
  all_done _ = after_dones _ [] refl (inl refl) (λ _. refl) refl

  module _ {target : Target} {tasks : List Task} {old : Scene} {cut : Cut} {new : Scene} (fell : Fell target tasks old cut new)
      (plain : AllByRecursion IsTaskOfPlan (tasks_of fell.dones)) (last : Place) (left : TalksTail cut new.place last) where
    open fell use {dones, next, later, mid, went}

    abbrev ends : List Turn
    ends = tail_turns (tail cut.fault)

    abbrev TookThese : List WholeReply → Type 0
    TookThese spare = Took (course items dones spare (next ∷ [])) old.place ends last.link

    abbrev Comes : Target → Course → Type 0
    Comes to c = Ahead to items tasks old.lines new.lines (Err cut) c old.place last.link

    -- the next turn was begun, and its text isn't stored
    begun_next : {turn : Turn} → turns_in next ≡ turn ∷ [] → Goes (turn ∷ []) ends mid.place.link last.link → TookThese []
    begun_next {turn} takes = after_dones _ _ (append-nil (turns_in next) ∙ takes) (inr (turn, refl))
        (λ none. absurd cc) (append-nil (found_for next []) ∙ nothing_found next) went.talked plain went.each

    -- the text was read to its end, and it isn't in the report
    with_spare : {number : ℕ} {uid : List ℕ} {reply : WholeReply} {there : Place} → next ≡ stores number uid
        → Talked (retr number ∷ []) (reply ∷ []) mid.place there → Goes [] ends there.link last.link → TookThese (reply ∷ [])
    with_spare {number} {reply = reply} {there} is fetched goes = record {
      done = turns_of dones ++ retr number ∷ [];
      replies = replies_of dones ++ reply ∷ [];
      begun = [];
      there = there;
      talked = laws.joins.on (turns_of dones) (retr number ∷ []) (replies_of dones) (reply ∷ []) old.place _ _ went.talked fetched;
      goes = goes;
      all = rw is (simp (flat_map-append, flat_map-map, append-nil));
      one = inl refl;
      read = λ more. rw is (simp (flat_map-append, append_assoc) (dones_read _ _ _ _ plain went.each
          (body_text reply.body, [], text_body number _ fetched.good.0.body, refl, refl)));
      each = went.each;
      asks = inr (number, refl, refl, (reply, refl));
      whole = λ _. refl;
    }

    begun : tasks ≡ (tasks_of dones ++ next ∷ []) ++ later
    begun = fell.split ∙ sym (append_assoc (tasks_of dones) (next ∷ []) later)

    -- the next task was begun, and isn't in the report
    passed : {to : Target} {spare : List WholeReply} → TookThese spare → new.lines ≡ mid.lines → IsSpare spare to (WasCut cut.fault)
        → Comes to (course items dones spare (next ∷ []))
    passed took told spare = ahead_cut _ took begun (told ∙ went.lines) spare

    -- the store refused the text, or the rest of it
    module _ (account : List ℕ) (refused : NoFile account next mid new cut) where
      rest_left : TalksTailBy cut.fault (Some refused.rest) new.place last
      rest_left = rw refused.under_way at left

      took_under : TookThese []
      took_under =
          let said = rest_left.1 refused.number mid.place refused.text refused.fetching in
          let p = laws.paced (retr refused.number ∷ ends) mid.place last said.0 said.1 in
          begun_next (ap turns_in refused.is) (search (p, under_way))

      ahead_refused : (refuses : RefusesText mid.store.maildir (stem_of account refused.uid) refused.rest refused.text
          cut.fault new.store.maildir) → Comes (AsFiles account) (course items dones (spare_in refused refuses) (next ∷ []))
      ahead_refused (inl _) = passed took_under refused.lines tt
      ahead_refused (inr (_, inl _)) = passed took_under refused.lines tt
      ahead_refused (inr (is, inr (done, (_, there)))) =
          let said = rest_left.0 done in
          passed (with_spare refused.is (refused.whole done).1 (goes_tail (fronted laws _ _ _ _ said.1))) refused.lines (ap WasCut is)

    -- the text was stored, and its id wasn't saved
    ahead_unsaved : {to : Target} {number : ℕ} {uid : List ℕ} {reply : WholeReply} → cut.rest ≡ None
        → next ≡ stores number uid → Talked (retr number ∷ []) (reply ∷ []) mid.place new.place → IsTaskOfPlan next
        → new.lines ≡ mid.lines ++ delivered number reply ∷ [] → Comes to (course items (dones ++ stored_done number uid reply ∷ []) [] [])
    ahead_unsaved {number = number} {uid} {reply} none is fetched small told =
        let one = stored_done number uid reply in
        ahead_cut later (all_done (dones ++ one ∷ []) {there = new.place}
        (rw (flat_map-append (λ (d : Done). turns_in d.task) dones (one ∷ []), flat_map-append (λ (d : Done). d.replies) dones (one ∷ []))
        (laws.joins.on (turns_of dones) (retr number ∷ []) (replies_of dones) (reply ∷ []) old.place _ _ went.talked fetched))
        (rw (map-append task_in dones (one ∷ [])) (all_append IsTaskOfPlan (tasks_of dones) (stores number uid ∷ [])
        plain (rw is at small, tt)))
        (all_append IsAnswered dones (one ∷ []) went.each (fetched.good, tt)) (goes_tail (tailed cut new.place last none left)))
        (begun ∙ rw is (simp (map-append, append-nil))) (told ∙ rw went.lines (simp (flat_map-append, append_assoc))) tt

    pub ahead_stopped : (to : Target) → IsTaskOfPlan next → (stops : Stops to next mid cut new)
        → Comes to (course_stopped to items dones next mid new cut stops)
    ahead_stopped _ small (inl broken) = passed (begun_next broken.takes
        (rw broken.broke.1 (goes_broke broken.turn mid.place new.place last broken.broke.0 broken.broke.2
        (rw broken.broke.1 at (tailed cut new.place last broken.none left))))) broken.lines tt
    ahead_stopped (AsFiles account) _ (inr (inl refused)) = ahead_refused account refused refused.refuses
    ahead_stopped (AsFiles _) small (inr (inr u)) = ahead_unsaved u.none u.is u.talked small u.lines
    ahead_stopped AsEntries small (inr (inl (inl wanting))) =
        let fetching = wanting.fetching in
        passed (begun_next (ap turns_in wanting.is) (goes_whole (fetching.opened.gained ++ fetching.under.gained)
        (fetching.under.drew.sent ∙ fetching.opened.sent) (rw (fetching.under.drew.got, fetching.opened.got) (simp append_assoc))
        (tailed cut new.place last wanting.none left))) wanting.lines tt
    ahead_stopped AsEntries small (inr (inl (inr (inl refused)))) =
        passed (with_spare refused.is refused.talked (goes_tail (tailed cut new.place last refused.none left))) refused.lines tt
    ahead_stopped AsEntries small (inr (inl (inr (inr stays)))) = ahead_cut (next ∷ later) (all_done dones went.talked plain went.each
        (goes_tail (tailed cut mid.place last stays.none (rw stays.place at left)))) (fell.split ∙ simp append-nil)
        (stays.lines ∙ went.lines) tt
    ahead_stopped AsEntries small (inr (inr u)) = ahead_unsaved u.none u.is u.talked small u.lines
