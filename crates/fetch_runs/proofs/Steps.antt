-- A session of the code is a step: what its link gained and what it left, together.
use Rattle.std.{
  proofs.Common.{◌≡◌, inl, inr, ℕ, true, List, ◌∷◌, ◌++◌, length, refl, sym, ap, ◌∙◌, ◌⊎◌, Ok, Err, []},
  proofs.lemmas.{Bool.{both_ways, or_right}, List.{append-nil, Folds.list_any-append}, Grind.flat_map-append},
  specs.{Prelude.{bytes_eq, ◌↔◌}, List.{AllByRecursion, count_by, flat_map}},
}
use Rattle.mail_terms.{specs.{Listing.Item, UniqueId.has_id}, proofs.ListLemmas.both_none}
use Rattle.rc_file.specs.declared.settings.Settings.{Settings}
use Rattle.fetch_record.specs.Record.{RecordState}
use Rattle.fetch_runs.{
  specs.Sessions.{IsBegun, SendsOnly, BeginsOne, Leaves, is_retr, tail_behind, AsksForNoMessage, IsHonest, Served, mbox_wanted},
  specs.{Steps.{holds, IsStep, SessionsLoseNothing, IsMboxStep, MboxSessionsLoseNothing, mbox_holds}, Below.Below},
  proofs.{Lists.{all_map, bytes_self, all_back}, Talk.{asks, name_of, word_of, Spoke, session_spoke, Planned, idle_said, is_tail_for}},
  proofs.Turns.{Course, course, SessionCourse, Idle, Deals, begun_of, IsOfTask, begins_weaker, deleted_in, deleted_by, effect_of, tail_for},
  proofs.{Turns.{course_of, found_by, found_for}, State.figures},
  proofs.{Tasks.{IsRight, found_all, count, is_ended, tally_numbers, tally_right}, State.{CourseLeads, LeavesAccount, course_leads}},
  proofs.{MboxState.{MboxLeads, Rests, course_leaves, mbox_figures}, Safety.{session_holds, mbox_session_holds, session_honest}},
}
use Rattle.pop3_wire.specs.{
  World.Message,
  declared.command.Command.{Command, TheVariants.{Dele, Retr}},
  Honest.HasSent,
  Place.at,
  Link.Link,
}
use Rattle.mail_store.specs.{FlatFile.Stored, Maildir.Maildir}
use Rattle.session_parts.specs.{
  declared.report.{Outcome.TheVariants.Ended, Report.Report},
  Report.retrieved_in,
  Task.{Task, deletes, Done, report_lines},
  Record.Keeps,
  Session.{MboxAccountFiles, keeps_files, outcome_of, Keeping, keeps_entries, SessionIn},
  Target.{AsFiles, AsEntries, mail_in, no_maildir, Target},
}

-- ---- deletions

pub begun_one : (account : List ℕ) (maildir : Maildir) (items : List Item) (tasks : List Task)
    → AllByRecursion (IsRight account maildir items) tasks → (command : Command)
    → IsOfTask tasks command → IsBegun items (deleted_by items tasks) command
begun_one account maildir items tasks right (Dele number) (front, behind, is) =
    let at = (all_back _ front (deletes number ∷ behind) (rw is at right)).0 in
    let begun : has_id (deleted_by items tasks) at.0.uid ≡ true =
    rw (
      is,
      flat_map-append (deleted_in items) front (deletes number ∷ behind),
      list_any-append (bytes_eq at.0.uid) (deleted_by items front) _,
      at.1,
      bytes_self at.0.uid,
    ) (or_right _ _ refl) in
    (at.0, at.1, begun, at.2, at.3)
begun_one _ _ _ _ _ _ _ = tt

-- each command that was sent is of this kind
abbrev sends_of : (account : List ℕ) (maildir : Maildir) (items : List Item) (tasks : List Task)
    → AllByRecursion (IsRight account maildir items) tasks → {commands : List Command} {sent : List ℕ}
    (asked : HasSent commands sent) → AllByRecursion (IsOfTask tasks) commands → BeginsOne (IsOfTask tasks) asked.part
    → SendsOnly (IsBegun items (deleted_by items tasks)) sent
sends_of account maildir items tasks right {commands} asked all next = record {
  commands = commands;
  asked = asked;
  each = all_map commands all (begun_one account maildir items tasks right);
  next = begins_weaker (begun_one account maildir items tasks right) asked.part next;
}

-- ---- the outcome

ended_if : (result : _) {outcome : _} → outcome ≡ outcome_of result → (is_ended result ≡ true) ↔ (outcome ≡ Ended)
ended_if (Ok _) is = (λ _. is, λ _. refl)
ended_if (Err cut) is = (λ never. absurd cc, λ ended. absurd cc)

-- ---- of a session with a listing, which came to its tasks

module _ {settings : Settings} {target : Target} {now : ℕ} {link : Link} {before after : Keeping} {report : Report}
    {link' : Link} (is : SessionIn settings target now link before report link' after) {c : Course}
    (said : Planned settings target now before link link' is.result is.notes.lines c) where
  pub retrieved_is : report.retrieved ≡ count c.taken
  retrieved_is = is.reports.retrieved_is ∙ ap retrieved_in said.by.told ∙ (found_all _ said.by.took.each).1

  -- if it ended, each RETR is in the report
  retrieves_all : is_ended is.result ≡ true → report.retrieved ≡ count_by is_retr
      (asks (name_of settings) (word_of settings) said.speaks.more)
  retrieves_all ended =
      let outcome = (ended_if _ refl).0 ended in
      let none = (said.by.ahead.whole outcome).0 in
      retrieved_is ∙ ap (λ l. length l) (sym (append-nil (found_by c.taken))) ∙ ap (λ under. length
      (found_by c.taken ++ flat_map (λ task. found_for task c.spare) under)) (sym none) ∙ said.speaks.all none (ap tail_behind outcome)

-- ---- with a Maildir

pub sessions_lose_nothing : Below → SessionsLoseNothing
sessions_lose_nothing laws settings account now link before rows report link' after valid keeps is =
    let step = joined (course_of is) (course_leads settings account now before.maildir rows laws keeps is) (session_spoke laws valid is) in
    let holds' = session_holds laws step.session in (step, holds'.0, holds'.1)
  where
    joined : (session_course : SessionCourse)
        → CourseLeads (λ (c : Course). LeavesAccount settings account now before.maildir rows is.result c after.maildir
        after.file.content) is.result (keeps_files before) (keeps_files after) is.notes.lines session_course
        → Spoke settings (AsFiles account) now (keeps_files before) link link' is.result is.notes.lines session_course
        → IsStep settings account now link before rows report link' after
    joined Idle left said =
        let idle = idle_said laws (name_of settings) (word_of settings) valid.valid_username valid.valid_password
        (tail_for is.result) (is_tail_for is.result) said.sent said.got said.said in
        let unchanged : Leaves (holds rows before.maildir) (effect_of now (is_ended is.result) (course [] [] [] []))
        (holds rows after.maildir) =
        record { rows = refl; same = ap (λ (k : Keeping). k.store.maildir.files) left.1; begun = refl; ended = left.0 } in
        record {
          sent = _;
          got = _;
          effect = effect_of now (is_ended is.result) (course [] [] [] []);
          rows' = rows;
          sent_is = said.sent_is;
          got_is = said.got_is;
          now_is = refl;
          keeps = rw (ap (λ (k : Keeping). k.file) left.1) keeps;
          session = record {
            sends = sends_of account before.maildir [] [] tt idle.1 idle.2 idle.3;
            ended = ended_if is.result is.reports.outcome_is;
            retrieves = λ ended. absurd (both_ways _ left.0 ended);
            step = inl (unchanged, is.reports.retrieved_is ∙ ap retrieved_in left.2);
          };
        }
    joined (Deals c) left said =
        record {
          sent = _;
          got = _;
          effect = effect_of now (is_ended is.result) c;
          rows' = left.rows';
          sent_is = said.sent_is;
          got_is = said.got_is;
          now_is = refl;
          keeps = left.keeps;
          session = record {
            sends = sends_of account before.maildir c.items (begun_of c)
                (tally_right left.tally) said.speaks.asked said.speaks.deletes said.speaks.next;
            ended = ended_if is.result is.reports.outcome_is;
            retrieves = retrieves_all is said;
            step = inr (
              figures left report _ said.speaks.asked.part
                  (retrieved_is is said) is.reports.outcome_is (λ none. record {
                    name = name_of settings;
                    word = word_of settings;
                    more = said.speaks.more;
                    commands_are = refl;
                    only = rw is.reports.outcome_is (said.speaks.stops none);
                  }),
              said.speaks.reads now (is_ended is.result) _ (tally_numbers left.tally),
            );
          };
        }

-- ---- without a task no message is asked for

no_message : (command : Command) → IsOfTask [] command → AsksForNoMessage command
no_message (Retr n) (front, task, behind, is) = absurd (let never : task ∷ behind ≡ [] = (both_none _ _ (sym is)).1 in cc)
no_message (Dele n) (front, behind, is) = absurd (let never : deletes n ∷ behind ≡ [] = (both_none _ _ (sym is)).1 in cc)
no_message _ _ = tt

-- ---- with an mboxrd file

pub mbox_sessions_lose_nothing : Below → MboxSessionsLoseNothing
mbox_sessions_lose_nothing laws settings now link before held report link' after valid keeps is =
    let step = joined (course_of is) (course_leaves laws (keeps_entries before) held keeps is) (session_spoke laws valid is) in
    let holds' = mbox_session_holds laws step.session
    in (step, holds'.0, holds'.1, holds'.2)
  where
    -- no task was begun
    quiet : (c : Course) → Rests now is.result c held before.mbox after.mbox after.file.content → report.retrieved ≡ 0
        → {sent : List ℕ} (got : List ℕ) → link'.sent ≡ link.sent ++ sent → link'.got ≡ link.got ++ got
        → (commands : List Command) (asked : HasSent commands sent) → AllByRecursion (IsOfTask (begun_of c)) commands
        → BeginsOne (IsOfTask (begun_of c)) asked.part → IsMboxStep settings now link before held report link' after
    quiet c rests retrieved _ sent_is got_is commands asked all next = record {
      sent = _;
      got = _;
      effect = effect_of now (is_ended is.result) c;
      held' = held;
      sent_is = sent_is;
      got_is = got_is;
      now_is = refl;
      keeps = rests.keeps;
      session = record {
        sends = sends_of [] no_maildir c.items (begun_of c) (rw rests.none tt) asked all next;
        ended = ended_if is.result is.reports.outcome_is;
        retrieves = λ ended. absurd (both_ways _ rests.leaves.ended ended);
        step = inl (
          rests.leaves,
          (all_map commands (rw rests.none at all) no_message, begins_weaker no_message asked.part (rw rests.none at next)),
          retrieved,
        );
      };
    }

    joined : (session_course : SessionCourse)
        → CourseLeads (λ (c : Course). Rests now is.result c held before.mbox after.mbox after.file.content
        ⊎ MboxLeads settings now held before.mbox is.result c after.mbox (Keeps after.file.content)) is.result
        (keeps_entries before) (keeps_entries after) is.notes.lines session_course
        → Spoke settings AsEntries now (keeps_entries before) link link' is.result is.notes.lines session_course
        → IsMboxStep settings now link before held report link' after
    joined Idle left said =
        let idle = idle_said laws (name_of settings) (word_of settings) valid.valid_username valid.valid_password
        (tail_for is.result) (is_tail_for is.result) said.sent said.got said.said in
        quiet (course [] [] [] []) (record {
          none = refl;
          untaken = refl;
          keeps = rw (ap (λ (k : Keeping). k.file) left.1) keeps;
          leaves = record {
            rows = refl;
            intent = refl;
            file = inl (ap (λ (k : Keeping). mail_in k.store.mbox.content) left.1);
            begun = refl;
            ended = left.0;
          };
        }) (is.reports.retrieved_is ∙ ap retrieved_in left.2) said.got said.sent_is said.got_is idle.0 idle.1 idle.2 idle.3
    joined (Deals c) (inl rests) said =
        quiet c rests (is.reports.retrieved_is ∙ ap retrieved_in said.by.told
        ∙ ap (λ (ds : List Done). retrieved_in (report_lines ds)) rests.untaken) said.got said.sent_is said.got_is _
        said.speaks.asked said.speaks.deletes said.speaks.next
    joined (Deals c) (inr left) said =
        record {
          sent = _;
          got = _;
          effect = effect_of now (is_ended is.result) c;
          held' = _;
          sent_is = said.sent_is;
          got_is = said.got_is;
          now_is = refl;
          keeps = left.keeps;
          session = record {
            sends = sends_of [] no_maildir c.items (begun_of c)
                (tally_right left.tally) said.speaks.asked said.speaks.deletes said.speaks.next;
            ended = ended_if is.result is.reports.outcome_is;
            retrieves = retrieves_all is said;
            step = inr (
              mbox_figures left report (retrieved_is is said) is.reports.outcome_is,
              said.speaks.reads now (is_ended is.result) _ (tally_numbers left.tally),
            );
          };
        }

-- the texts that it took are those of the wanted messages, if its server was honest
pub mbox_honest : Below → {settings : Settings} {now : ℕ} {link : Link} {before : MboxAccountFiles} {report : Report}
    {link' : Link} {after : MboxAccountFiles} (held : RecordState)
    (is : SessionIn settings AsEntries now link (keeps_entries before) report link' (keeps_entries after)) {c : Course}
    {mbox' : Stored} {Kept : RecordState → Type 0} → MboxLeads settings now held before.mbox is.result c mbox' Kept →
    (said : Planned settings AsEntries now (keeps_entries before) link link' is.result is.notes.lines c)
    {drop : List Message} {vanished : List (List ℕ)} → Served drop said.sent said.got vanished
    → IsHonest (mbox_wanted settings (mbox_holds held before.mbox) (effect_of now (is_ended is.result) c)) drop
    (effect_of now (is_ended is.result) c)
mbox_honest laws {settings} {now} {before = before} held is {c} left said served = session_honest laws
    (effect_of now (is_ended is.result) c) (sends_of [] no_maildir c.items (begun_of c)
    (tally_right left.tally) said.speaks.asked said.speaks.deletes said.speaks.next) served
    (mbox_wanted settings (mbox_holds held before.mbox) (effect_of now (is_ended is.result) c))
    (said.speaks.reads now (is_ended is.result) _ (tally_numbers left.tally))
