-- The opening of a session, and all that a session said, as commands and replies: each session is one conversation, by
-- its plan or of the opening alone.
use Rattle.std.{
  proofs.Common.{◌≡◌, inl, inr, ℕ, List, ◌∷◌, ◌++◌, map, Result, Ok, Err, ◌⊎◌, true, None, Some, refl, sym, ap, ◌∙◌, append_assoc, Bool},
  proofs.Common.{Option, ◌≤◌, ◌+◌, length, arith, rules, take, ap₂, ⊎_elim, map-id, subst, cond, false, subst₂, [], ◌≢◌},
  proofs.lemmas.List.{append-nil, append_cancel_left, Concat.{flat_map-append, flat_map_single}, Folds.flat_map-map, Sums.sum_by-append},
  specs.{List.{flat_map, count_by, AllByRecursion, AllZip, enumerate_from}, String.string_bytes},
}
use Rattle.pop3_wire.specs.{
  Link.Link,
  declared.{command.Command.{Command, TheVariants.{User, Pass, Stat, UidlAll, ListAll, Quit}}, reply.Status.TheVariants.Positive},
  declared.note.Asked.TheVariants.Greeting as ByGreeting,
  Honest.HasSent,
  Place.{Place, at},
  Reading.{WholeReply, reply_bytes},
  Fields.number_and_size,
  Reply.{indicator, without_space},
}
use Rattle.mail_terms.{
  specs.{Listing.{Item, Joins, UidRow}, Credential.is_credential, declared.listing.ScanRow.ScanRow},
  proofs.ListLemmas.both_none,
}
use Rattle.rc_file.specs.{declared.settings.Settings.Settings, Settings.IsValid}
use Rattle.mail_store.specs.{FileName.{is_held, is_odd}, FlatFile.Stored}
use Rattle.session_parts.specs.{
  declared.{fault.{Cut.Cut, Fault.{Fault, TheVariants.Refused}}, report.{ReportLine.ReportLine, Skips.Skips, Report.Report}},
  declared.report.Outcome.TheVariants.Ended,
  Fault.fault_of,
  Task.{Task, stores, rereads, Done, tasks_of, says, turns_in, turns_of, IsAnswered, tasks_planned, report_lines, lines_in},
  CarryingOut.{tasks_ahead, Carried, Carries, Prepared},
  Scene.{Scene, scene, Does},
  Session.{Keeping, Dealt, Proceeds, LeavesLink, Enters_with, SessionIn, keeps_entries, keeps_files, outcome_of},
  Target.{Target, AsFiles, AsEntries, Stores, odd_in},
  Tail.{tail, turns_of_tail as tail_turns},
  Opening.{opening, SessionOpened, Enters},
  Report.is_text_taken,
}
use Rattle.pop3_client.specs.{
  Turns.{Turn, quit, IsBody, IsGood, greeting, rset},
  declared.fault.ClientFault.ClientFault,
  Conversation.{Talked, Talks},
}
use Rattle.fetch_runs.{
  specs.{Sessions.{BeginsOne, ReadsReplies, Retrieves, IsListed, TalkedWith as IsTalked, tail_behind, SaysOnly, is_retr}, Below.Below},
  specs.Conversations.{Conversation, plan_turns, Converses, plan_commands, IsTail as IsTailOf, IsFrontOfPlan, is_retrieval, retrieved_by},
  specs.Conversations.{FollowsPlan, MboxSessionsFollowPlans, EndsInOpening, SpeaksByPlan, SessionsAreConversations, step_commands},
  proofs.Lists.{all_append, all_back, all_front},
  proofs.Turns.{Course, SessionCourse, Idle, Deals, course_does, course_carried, course_carries, course_dealt, course_of, course_proceeded},
  proofs.Turns.{found_of, begun_of, IsOfTask, found_number, number_of, effect_of, said_in, commands_in, CanBeSaid, begins_any, begins_one},
  proofs.Turns.{Commanded, commanded, IsCommand, replies_read, each_found, IsTaskOfPlan, plain_ahead, said_tasks, commands_tasks, of_tasks},
  proofs.Turns.{fronted, Goes, goes_tail, goes_broke, conversation, Took, tail_for, Ahead, ahead_cut, tailed, all_done, ahead_stopped},
}
use Rattle.fetch_record.specs.Record.{Row}
use Rattle.fetch_rules.specs.{Plan.{planned, step_of}, Wanted.none_odd, declared.plans.Step.Step}
use mathlib.Core.Logic.{⊎_map}

-- ---- The opening of a session, as the law over accounts reads it.

-- the six replies to an opening
pub record OpeningReplies (name word : List ℕ) (welcome : List WholeReply) (counted named sized : WholeReply) : Type 0 where
  pub hello : WholeReply
  pub to_user : WholeReply
  pub to_pass : WholeReply
  pub is : welcome ≡ hello ∷ to_user ∷ to_pass ∷ []
  pub good : AllZip IsGood (opening name word) (hello ∷ to_user ∷ to_pass ∷ counted ∷ named ∷ sized ∷ [])

pub replied : {name word : List ℕ} (welcome : List WholeReply) {counted named sized : WholeReply}
    → AllZip IsGood (opening name word) (welcome ++ counted ∷ named ∷ sized ∷ []) → OpeningReplies name word welcome counted named sized
replied (a ∷ b ∷ c ∷ []) good = record { hello = a; to_user = b; to_pass = c; is = refl; good = good }
replied (a ∷ b ∷ c ∷ d ∷ e ∷ f ∷ g ∷ more) (_, (_, (_, (_, (_, (_, never)))))) = absurd never
replied _ good = search rules depth 9

-- the greeting has no body
pub no_greeting_body : (body : Option (List (List ℕ))) → IsBody greeting body → body ≡ None
no_greeting_body None is = refl
no_greeting_body (Some _) is = absurd is.1

-- the opening can be sent
pub said_opening : (name word : List ℕ) → is_credential name ≡ true → is_credential word ≡ true
    → AllByRecursion CanBeSaid (opening name word)
said_opening _ _ n w = (tt, ((n, tt), ((w, tt), ((refl, tt), ((refl, tt), ((refl, tt), tt))))))

-- ---- a listing

module _ {name word : List ℕ} {old new : Place} {count : ℕ} {uids : List UidRow} {sizes : List ScanRow}
    (opened : SessionOpened name word old new count uids sizes) where
  -- the replies that a session got
  abbrev pub replies_to : List WholeReply
  replies_to = opened.welcome ++ opened.counted ∷ opened.named ∷ opened.sized ∷ []

  -- how many messages are listed
  pub few_items : {items : List Item} → Joins count uids sizes items → length items ≤ 100000
  few_items joins =
      let (_, (_, (_, (good, _)))) = (replied _ opened.talked.good).good in
      let (after, begins, rest_is) = good.positive in
      let (_, _, (after', begins', rest_is'), count_is) = opened.gives in
      let fits = good.fits refl in
      let rest = rest_is ∙ ap without_space (append_cancel_left (indicator Positive) after after' (sym begins ∙ begins'))
      ∙ sym rest_is' in
      grind (arith, sym fits.2 ∙ ap number_and_size rest ∙ count_is, joins.count, fits.3)

  -- the listing that the replies give
  listed : {items : List Item} → Joins count uids sizes items → IsListed opened.counted opened.named opened.sized items
  listed joins = search (opened, joins)

-- ---- What a session with a joined listing sent and read, as the law over accounts takes it.

-- the commands of an opening, and more
abbrev pub asks : List ℕ → List ℕ → List Command → List Command
asks name word more = User name ∷ Pass word ∷ Stat ∷ UidlAll ∷ ListAll ∷ more

pub record Speaks (c : Course) (name word : List ℕ) (turns : List Turn) (sent got : List ℕ) : Type 0 where
  pub more : List Command
  pub asked : HasSent (asks name word more) sent
  pub reads : (now : ℕ) (ends : Bool) (messages : List (ℕ × Item))
      → map found_number (found_of c) ≡ map number_of (take (length (found_of c)) messages)
      → ReadsReplies messages (asks name word more) sent got (effect_of now ends c)
  pub deletes : AllByRecursion (IsOfTask (begun_of c)) (asks name word more)
  pub next : BeginsOne (IsOfTask (begun_of c)) asked.part
  -- all that was asked for came, if each task was completed and no tail follows
  pub all : c.under ≡ [] → turns ≡ [] → length (found_of c) ≡ count_by is_retr (asks name word more)
  -- if no task was begun, no more was sent than the tail
  pub stops : begun_of c ≡ [] → SaysOnly turns more asked.part

-- the turns after a fault
pub data IsTail : List Turn → Type 0 where
  silent : IsTail []
  says_quit : IsTail (quit ∷ [])
  undoes : IsTail (rset ∷ quit ∷ [])

pub is_tail : (fault : Fault) → IsTail (tail_turns (tail fault))
is_tail (Refused ByGreeting) = says_quit
is_tail _ = search (silent, says_quit, undoes)

pub is_tail_for : (result : Result (Unit {0}) Cut) → IsTail (tail_for result)
is_tail_for (Ok _) = silent
is_tail_for (Err _) = is_tail _

-- they can be sent, and delete nothing
of_tail : (tasks : List Task) {turns : List Turn} → IsTail turns → AllByRecursion CanBeSaid turns
    × (turns ≡ map Some (commands_in turns)) × AllByRecursion (IsOfTask tasks) (commands_in turns)
of_tail _ silent = (tt, refl, tt)
of_tail _ _ = (search rules, refl, search rules)

module _ (tasks : List Task) {done begun turns : List Turn} {sent : List ℕ} (kind : IsTail turns) (c : Commanded done begun turns sent)
    (all : AllByRecursion (IsOfTask tasks) (commands_in done ++ commands_in begun)) where
  begun_of_tasks : AllByRecursion (IsOfTask tasks) (c.ahead ++ c.unsaid)
  begun_of_tasks = rw c.of_begun at (all_back _ _ (commands_in begun) all)

  ends_of_tasks : AllByRecursion (IsOfTask tasks) (c.ends ++ c.unended)
  ends_of_tasks = rw c.of_tail at (of_tail tasks kind).2

  -- a RETR or DELE that was sent is a task's: a tail has none
  pub said_of_tasks : AllByRecursion (IsOfTask tasks) (commands_in done ++ (c.ahead ++ c.ends))
  said_of_tasks = all_append (IsOfTask tasks) (commands_in done) (c.ahead ++ c.ends)
      (all_front (IsOfTask tasks) (commands_in done) (commands_in begun) all)
      (all_append (IsOfTask tasks) c.ahead c.ends (all_front (IsOfTask tasks) c.ahead c.unsaid begun_of_tasks)
      (all_front (IsOfTask tasks) c.ends c.unended ends_of_tasks))

  -- so is one that was begun after them
  pub next_of_tasks : BeginsOne (IsOfTask tasks) c.asked.part
  next_of_tasks = ⊎_elim (λ is. begins_one _ _ _ is (all_back _ _ _ begun_of_tasks))
      (λ is. begins_one _ _ _ is (all_back _ _ _ ends_of_tasks)) c.begins

-- a session that joined its listing
pub record Said (c : Course) {name word : List ℕ} {start mid : Place} {count : ℕ} {uids : List UidRow}
    {sizes : List ScanRow} (opened : SessionOpened name word start mid count uids sizes) {turns : List Turn}
    {link : Link} (took : Took c mid turns link) : Type 0 where
  pub sent : List ℕ
  pub got : List ℕ
  pub sent_is : link.sent ≡ start.link.sent ++ sent
  pub got_is : link.got ≡ start.link.got ++ got
  pub speaks : Speaks c name word turns sent got
  pub is : Conversation (opening name word ++ took.done) (replies_to opened ++ took.replies) took.begun turns sent got
  pub whole : Commanded (opening name word ++ took.done) took.begun turns sent

pub spoken : Below → {name word : List ℕ} {count : ℕ} {uids : List UidRow} {sizes : List ScanRow} {start mid : Place}
    {turns : List Turn} {link : Link} → is_credential name ≡ true → is_credential word ≡ true
    → (c : Course) → IsTail turns → start.waiting ≡ [] → (opened : SessionOpened name word start mid count uids sizes)
    → Joins count uids sizes c.items → AllByRecursion IsTaskOfPlan (begun_of c) → (took : Took c mid turns link) → Said c opened took
spoken laws {name} {word} {start = start} {mid} {turns} {link} named' worded c kind none opened joins plain took =
    let speaks : Speaks c name word turns is.0 is.1 = record {
      more = commands_in took.done ++ (whole.ahead ++ whole.ends);
      asked = whole.asked;
      reads = λ now ends messages numbers.
          let talked : IsTalked (asks name word (commands_in took.done ++ (whole.ahead ++ whole.ends)))
          (r.to_user ∷ r.to_pass ∷ opened.counted ∷ opened.named ∷ opened.sized ∷ took.replies) is.0 is.1 = record {
            asked = whole.asked;
            hello = r.hello.first;
            line = r.good.0.line;
            good = replies_read (Some (User name) ∷ Some (Pass word) ∷ Some Stat ∷ Some UidlAll ∷ Some
                ListAll ∷ took.done) (r.to_user ∷ r.to_pass ∷ opened.counted ∷ opened.named ∷ opened.sized
                ∷ took.replies) (whole.ahead ++ whole.ends)
                (tt, (tt, (tt, (tt, (tt, all_front IsCommand took.done took.begun (rw took.all at (commands_tasks (begun_of c) plain)))))))
                (subst (λ ws. AllZip IsGood (opening name word ++ took.done)
                ((ws ++ opened.counted ∷ opened.named ∷ opened.sized ∷ []) ++ took.replies)) r.is is.4.good).1;
            rest = is.4.rest;
            whole = is.4.heard ∙ ap (λ ws. flat_map reply_bytes
                ((ws ++ opened.counted ∷ opened.named ∷ opened.sized ∷ []) ++ took.replies) ++ is.4.rest) r.is
                ∙ rw (no_greeting_body r.hello.body r.good.0.body) (simp (append_assoc, append-nil));
          } in
          let read : Retrieves (commands_in took.done ++ (whole.ahead ++ whole.ends)) took.replies (found_of c) =
          took.read (whole.ahead ++ whole.ends) in
          search (talked, listed opened joins, read, numbers);
      deletes = said_of_tasks (begun_of c) kind whole (tt, (tt, (tt, (tt, (tt, tasked)))));
      next = next_of_tasks (begun_of c) kind whole (tt, (tt, (tt, (tt, (tt, tasked)))));
      all = λ taken silent.
          let ahead = both_none whole.ahead whole.unsaid (sym whole.of_begun ∙ ap commands_in (took.whole taken)) in
          let ends = both_none whole.ends whole.unended (sym whole.of_tail ∙ ap commands_in silent) in
          let asks = all_front IsCommand took.done took.begun (rw took.all at (commands_tasks (begun_of c) plain)) in
          let number = each_found took.done took.replies (found_of c) asks took.talked.good (rw append-nil at (took.read [])) in
          rw (ahead.0, ends.0, append-nil) (omega (arith, number));
      stops = λ none.
          let turns' = both_none took.done took.begun (sym took.all ∙ ap (flat_map turns_in) none) in
          let none' = both_none whole.ahead whole.unsaid (sym whole.of_begun ∙ ap commands_in turns'.1) in
          record {
            later = whole.unended;
            split = (of_tail [] kind).1 ∙ ap (map Some) (whole.of_tail
                ∙ sym (ap₂ (λ ts cs. (commands_in ts ++ (cs ++ whole.ends)) ++ whole.unended) turns'.0 none'.0));
            begins = ⊎_elim (λ is. begins_any whole.unended whole.asked.part (rw none'.1 at is)) (λ is. is) whole.begins;
          };
    } in
    search (is, speaks, whole)
  where
    is : (sent got : List ℕ) × (link.sent ≡ start.link.sent ++ sent) × (link.got ≡ start.link.got ++ got)
        × Conversation (opening name word ++ took.done) (replies_to opened ++ took.replies) took.begun turns sent got
    is = conversation none (laws.joins.on (opening name word) took.done (replies_to opened) took.replies start mid
        took.there opened.talked took.talked) took.goes

    r : OpeningReplies name word opened.welcome opened.counted opened.named opened.sized
    r = replied opened.welcome opened.talked.good

    whole : Commanded (opening name word ++ took.done) took.begun turns is.0
    whole =
        let can = rw took.all at (said_tasks (begun_of c) plain) in
        commanded laws (all_append CanBeSaid (opening name word) took.done (said_opening name word named' worded)
        (all_front CanBeSaid took.done took.begun can)) (all_back CanBeSaid took.done took.begun can) (of_tail [] kind).0 is.4

    tasked : AllByRecursion (IsOfTask (begun_of c)) (commands_in took.done ++ commands_in took.begun)
    tasked = subst (AllByRecursion (IsOfTask (begun_of c))) (ap commands_in took.all
        ∙ flat_map-append said_in took.done took.begun) (of_tasks [] (begun_of c) plain)

-- ---- The commands of a conversation are a prefix of the plan's, and a tail.

ends_tail : (turns : List Turn) → IsTail turns → (ends more : List Command) → commands_in turns ≡ ends ++ more → IsTailOf ends
ends_tail _ silent [] more e = inl refl
ends_tail _ says_quit (c ∷ d ∷ _) more e = grind arith
ends_tail _ undoes (c ∷ d ∷ f ∷ _) more e = grind arith
ends_tail _ _ _ more e = grind arith

pub front_of_plan : {name word : List ℕ} {steps : List Step} {done begun turns : List Turn} {sent : List ℕ}
    (later : List Turn) → plan_turns name word steps ≡ done ++ (begun ++ later) → IsTail turns
    → (c : Commanded done begun turns sent) → IsFrontOfPlan name word steps (commands_in done ++ (c.ahead ++ c.ends))
front_of_plan {name} {word} {steps} {done} {turns = turns} later split kind c =
    let plan : plan_commands name word steps ≡ (commands_in done ++ c.ahead) ++ (c.unsaid ++ commands_in later) =
    (simp (flat_map-map, flat_map_single, map-id) at (ap commands_in split)) ∙ simp (flat_map-append, c.of_begun, append_assoc) in
    search (plan, ends_tail, sym (append_assoc (commands_in done) c.ahead c.ends))

-- ---- What a session sent if it didn't come to deal with a listing.

-- what the link gained is a conversation of the opening
pub record OpensAlone (name word : List ℕ) (turns : List Turn) (old new : Link) : Type 0 where
  pub sent : List ℕ
  pub got : List ℕ
  pub sent_is : new.sent ≡ old.sent ++ sent
  pub got_is : new.got ≡ old.got ++ got
  pub said : Converses (opening name word) turns sent got

module _ (laws : Below) (name word : List ℕ) (start new last : Place) (none : start.waiting ≡ []) where
  opens_by : {done begun turns : List Turn} {replies : List WholeReply} {mid : Place} (later : List Turn)
      → opening name word ≡ done ++ (begun ++ later) → (begun ≡ []) ⊎ ((turn : Turn) × (begun ≡ turn ∷ []))
      → Talked done replies start mid → Goes begun turns mid.link last.link → OpensAlone name word turns start.link last.link
  opens_by _ split one talked goes =
      let is = conversation none talked goes in
      search (is, split, one)

  pub opens_all : {count : ℕ} {uids : List UidRow} {sizes : List ScanRow} (turns : List Turn)
      → SessionOpened name word start new count uids sizes → (result : Result (Unit {0}) ClientFault)
      → Talks turns new result last → OpensAlone name word turns start.link last.link
  opens_all _ opened _ talks = opens_by [] (sym (append-nil (opening name word))) (inl refl) opened.talked
      (goes_tail (fronted laws _ _ _ _ talks))

  -- no listing was joined
  pub opens_cut : (why : ClientFault) → Enters name word start (Err why) new → (result : Result (Unit {0}) ClientFault)
      → Talks (tail_turns (tail (fault_of why))) new result last
      → OpensAlone name word (tail_turns (tail (fault_of why))) start.link last.link
  opens_cut _ (inl s) _ talks = opens_by _ s.split (inr (s.next, refl)) s.talked (goes_broke _ _ _ _ _ s.broke (fronted laws _ _ _ _ talks))
  opens_cut _ (inr (inl (is, (_, _, _, opened, _)))) _ talks = opens_all _ opened _ talks
  opens_cut _ (inr (inr (is, (_, _, _, opened)))) _ talks = opens_all _ opened _ talks

-- the commands of a conversation of the opening
pub commanded_opening : Below → (name word : List ℕ) → is_credential name ≡ true → is_credential word ≡ true
    → {turns : List Turn} {sent got : List ℕ} → IsTail turns
    → (said : Converses (opening name word) turns sent got) → Commanded said.done said.begun turns sent
commanded_opening laws name word named worded kind said =
    commanded laws (all_front _ _ _ can) (all_front _ _ _ (all_back _ _ _ can)) (of_tail [] kind).0 said.is
  where
    can : AllByRecursion CanBeSaid (said.done ++ (said.begun ++ said.later))
    can = subst (AllByRecursion CanBeSaid) said.split (said_opening name word named worded)

-- none of them is a RETR or a DELE
pub idle_said : Below → (name word : List ℕ) → is_credential name ≡ true → is_credential word ≡ true
    → (turns : List Turn) → IsTail turns → (sent got : List ℕ)
    → Converses (opening name word) turns sent got → (commands : List Command) × (asked : HasSent commands sent)
    × AllByRecursion (IsOfTask []) commands × BeginsOne (IsOfTask []) asked.part
idle_said laws name word named worded turns kind sent got said =
    (commands_in said.done ++ (whole.ahead ++ whole.ends), whole.asked, said_of_tasks [] kind whole none, next_of_tasks [] kind whole none)
  where
    whole : Commanded said.done said.begun turns sent
    whole = commanded_opening laws _ _ named worded kind said

    parts : commands_in (opening name word) ≡ (commands_in said.done ++ commands_in said.begun) ++ commands_in said.later
    parts = ap commands_in said.split ∙ simp (flat_map-append, append_assoc)

    none : AllByRecursion (IsOfTask []) (commands_in said.done ++ commands_in said.begun)
    none = all_front _ _ _ (subst (AllByRecursion (IsOfTask [])) parts (tt, (tt, (tt, (tt, (tt, tt))))))

-- ---- What each session sent and read, as the law over accounts takes it.

-- what the link gained by a course that is a prefix of the planned tasks
pub record Dealing (settings : Settings) (target : Target) (items : List Item) (now : ℕ) (store : Stores)
    (file : Stored) (lines lines' : List ReportLine) (c : Course) (start : Place) (result : Result (Unit {0}) Cut)
    (link : Link) : Type 0 where
  pub rows : List Row
  pub ahead : Ahead target items (tasks_ahead settings target items now store rows) lines lines' result c start link
  pub open ahead use *
  pub found : ((mid : Scene) × Prepared settings target items now start store file lines mid × (mid.rows ≡ rows)) ⊎ (begun_of c ≡ [])

module _ (laws : Below) where
  ahead_does : (target : Target) (items : List Item) (tasks : List Task) (old new : Scene)
      (result : Result (Unit {0}) Cut) (link : Link) → (does : Does target tasks old result new)
      → AllByRecursion IsTaskOfPlan tasks → LeavesLink result new.place link → Ahead target items tasks old.lines new.lines result
      (course_does target items tasks old new result does) old.place link
  ahead_does _ items _ _ new (Ok _) _ went plain leaves = record {
    took = rw leaves (all_done laws items went.dones went.went.talked (rw went.all at plain) went.went.each (record {
      gained = [];
      got = sym (append-nil new.place.link.got);
      behind = [];
      sent = sym (append-nil new.place.link.sent);
      sent_behind = inl ([], refl);
    }));
    later = [];
    same_items = refl;
    split = went.all ∙ simp append-nil;
    told = went.went.lines;
    spare = tt;
    whole = λ _. (refl, refl);
  }
  ahead_does target items tasks old new (Err cut) _ fell plain leaves =
      let front = all_front IsTaskOfPlan (tasks_of fell.dones) (fell.next ∷ fell.later) (rw fell.split at plain) in
      let back = all_back IsTaskOfPlan (tasks_of fell.dones) (fell.next ∷ fell.later) (rw fell.split at plain) in
      rw leaves.2 (ahead_stopped laws items fell front leaves.0 leaves.1 target back.0 fell.stops)

  module _ (settings : Settings) (target : Target) (items : List Item) (now : ℕ) (place : Place) (store : Stores)
      (file : Stored) (lines : List ReportLine) (few : length items ≤ 100000) where
    dealing_carried : (result : Result (Unit {0}) Cut) (new : Scene) (skipped : Skips) (link : Link)
        → (is : Carried settings target items now place store file lines result new skipped) → LeavesLink result new.place link
        → Dealing settings target items now store file lines new.lines
        (course_carried is) place result link
    dealing_carried result new _ link is leaves = record {
      rows = is.mid.rows;
      ahead = subst₂ (λ first p. Ahead target items (tasks_ahead settings target items now store is.mid.rows) first
          _ _ (course_carried is) p link) is.prepared.lines_are is.prepared.place_is
          (ahead_does target items (tasks_ahead settings target items now store is.mid.rows) is.mid new result link
          is.does (plain_ahead settings target items now store is.mid.rows few) leaves);
      found = inl (is.mid, is.prepared, refl);
    }

    pub dealing : (result : Result (Unit {0}) Cut) (place' : Place) (store' : Stores) (file' : Stored)
        (lines' : List ReportLine) (skipped : Skips) (link : Link)
        → (is : Carries settings target items now place store file lines result place' store' file' lines' skipped)
        → LeavesLink result place' link → Dealing settings target items now store file lines lines'
        (course_carries settings target items now place store file lines result place' store' file' lines' skipped is) place result link
    dealing (Ok done) place' store' file' lines' skipped link is leaves =
        dealing_carried (Ok done) (scene place' store' file' is.0 lines') skipped link is.1 leaves
    dealing (Err cut) place' store' file' lines' skipped link (rows, inl (none, is)) leaves = record {
      rows = [];
      ahead = rw leaves.2 (ahead_cut (tasks_ahead settings target items now store []) (all_done laws items [] (laws.joins.none place) tt tt
          (goes_tail (tailed laws items cut place leaves.0 is.none (rw is.place_is at leaves.1))))
          refl (is.lines_are ∙ sym (append-nil lines)) tt);
      found = inr refl;
    }
    dealing (Err cut) place' store' file' lines' skipped link (rows, inr is) leaves =
        dealing_carried (Err cut) (scene place' store' file' rows lines') skipped link is leaves

-- ---- The turns of a plan's tasks are the plan's commands, and each text that was taken is a line of the report.

plan_same : (held : Item → Bool) (f : ℕ × Item → Step) (n : ℕ) (items : List Item)
    → flat_map turns_in (tasks_planned (map f (enumerate_from n items)) items (map held items) ++ says quit ∷ [])
    ≡ map Some (flat_map step_commands (map f (enumerate_from n items)) ++ Quit ∷ [])
plan_same _ f n [] = refl
plan_same held f n (i ∷ items) = let later = plan_same held f (n + 1) items in grind (arith, later)

pub turns_ahead : (settings : Settings) (target : Target) (items : List Item) (now : ℕ) (store : Stores) (rows : List Row)
    → flat_map turns_in (tasks_ahead settings target items now store rows)
    ≡ map Some (flat_map step_commands (planned settings (odd_in target store) rows items now) ++ Quit ∷ [])
turns_ahead settings (AsFiles account) items now store rows =
    plan_same (λ item. is_held account store.maildir item.uid) (step_of settings (is_odd account store.maildir) rows items now) 1 items
turns_ahead settings AsEntries items now _ rows = plan_same (λ _. false) (step_of settings none_odd rows items now) 1 items

-- ---- how many texts were taken

taken_first : (task : Task) (replies : List WholeReply) → IsTaskOfPlan task → AllZip IsGood (turns_in task) replies
    → count_by is_text_taken (lines_in task replies) ≡ retrieved_by (turns_in task)
taken_first (says _) _ is good = rw is
taken_first (stores number _) (r ∷ []) is good = refl
taken_first (rereads number _) (r ∷ []) is good = refl
taken_first _ _ is good = search rules

pub taken_same : (dones : List Done) → AllByRecursion IsTaskOfPlan (tasks_of dones) → AllByRecursion IsAnswered dones
    → count_by is_text_taken (report_lines dones) ≡ retrieved_by (turns_of dones)
taken_same [] plain _ = refl
taken_same (d ∷ dones) plain each =
    omega (
      arith,
      taken_first,
      taken_same dones plain.1 each.1,
      sum_by-append (λ (l : ReportLine). cond (is_text_taken l) 1 0) (lines_in d.task d.replies) (report_lines dones),
      sum_by-append (λ (t : Turn). cond (is_retrieval t) 1 0) (turns_in d.task) (turns_of dones),
    )

-- ---- What a session said: the turns of a plan if its listing was joined, otherwise the opening alone.

abbrev pub name_of : Settings → List ℕ
name_of settings = string_bytes settings.username

abbrev pub word_of : Settings → List ℕ
word_of settings = string_bytes settings.password

abbrev opening_of : Settings → List Turn
opening_of settings = opening (name_of settings) (word_of settings)

-- ---- the listing was joined

pub record Planned (settings : Settings) (target : Target) (now : ℕ) (before : Keeping) (link link' : Link)
    (result : Result (Unit {0}) Cut) (lines : List ReportLine) (c : Course) : Type 0 where
  pub items : List Item
  pub mid : Place
  pub enters : Enters_with settings (at link []) (Ok items) mid
  pub by : Dealing settings target items now before.store before.file [] lines c mid result link'
  pub plain : AllByRecursion IsTaskOfPlan (begun_of c)
  pub said : Said c enters.3 by.took
  pub open said use *
  pub split : plan_turns (name_of settings) (word_of settings) (planned settings (odd_in target before.store) by.rows items now)
      ≡ (opening_of settings ++ by.took.done) ++ (by.took.begun ++ flat_map turns_in by.ahead.later)
  pub follows : FollowsPlan settings (planned settings (odd_in target before.store) by.rows items now) sent

-- what a session said: with no listing, the opening alone
abbrev pub Spoke : Settings → Target → ℕ → Keeping → Link → Link → Result (Unit {0}) Cut → List ReportLine → SessionCourse → Type 0
Spoke settings _ _ _ link link' result _ Idle = OpensAlone (name_of settings) (word_of settings) (tail_for result) link link'
Spoke settings target now before link link' result lines (Deals c) = Planned settings target now before link link' result lines c

pub session_spoke : Below → {settings : Settings} {target : Target} {now : ℕ} {link link' : Link} {before after : Keeping} {report : Report}
    → IsValid settings → (session : SessionIn settings target now link before report link' after)
    → Spoke settings target now before link link' session.result session.notes.lines (course_of session)
session_spoke laws {settings} {target} {now} {link} {link'} {before} {after} valid session =
    spoke session.result session.proceeds session.leaves
  where
    planned_talk : (result : Result (Unit {0}) Cut)
        → (is : Dealt settings target now (at link []) before result session.mid after session.notes) → LeavesLink result session.mid link'
        → Planned settings target now before link link' result session.notes.lines
        (course_dealt is)
    planned_talk result is leaves =
        let c = course_dealt is in
        let few = few_items is.enters.3 is.enters.4 in
        let by = dealing laws settings target is.items now is.mid before.store before.file [] few result session.mid
        after.store after.file session.notes.lines session.notes.skipped link' is.carries leaves in
        let plain = all_front IsTaskOfPlan (begun_of c) by.ahead.later
        (rw by.ahead.split at (plain_ahead settings target is.items now before.store by.rows few)) in
        let said = spoken laws valid.valid_username valid.valid_password c (is_tail_for result) refl is.enters.3
        (rw (← by.ahead.same_items) at is.enters.4) plain by.took in
        let split : plan_turns (name_of settings) (word_of settings) (planned settings (odd_in target before.store) by.rows is.items now)
        ≡ (opening_of settings ++ by.took.done) ++ (by.took.begun ++ flat_map turns_in by.ahead.later) =
        ap (λ (ts : List Turn). opening_of settings ++ ts) (sym (turns_ahead settings target is.items now before.store by.rows)
        ∙ ap (flat_map turns_in) by.ahead.split ∙ flat_map-append turns_in (begun_of c) by.ahead.later
        ∙ ap (λ (ts : List Turn). ts ++ flat_map turns_in by.ahead.later) by.took.all) ∙ simp append_assoc in
        record {
          items = is.items;
          mid = is.mid;
          enters = is.enters;
          by = by;
          plain = plain;
          said = said;
          split = split;
          follows = search (
            said.whole.asked,
            front_of_plan {steps = planned settings (odd_in target before.store) by.rows is.items now}
                (flat_map turns_in by.ahead.later) split (is_tail_for result) said.whole,
          );
        }

    -- ---- by how far it came

    spoke : (result : Result (Unit {0}) Cut)
        → (is : Proceeds settings target now (at link []) before result session.mid after session.notes)
        → LeavesLink result session.mid link' → Spoke settings target now before link link' result session.notes.lines
        (course_proceeded settings target now (at link []) before result session.mid after session.notes is)
    spoke (Ok done) is leaves = planned_talk (Ok done) is leaves
    spoke (Err cut) (inl is) leaves =
        let talks = rw is.is at leaves.1 in
        rw (leaves.2, is.is) (opens_cut laws (name_of settings) (word_of settings) (at link []) session.mid leaves.0
        refl is.why is.enters talks.0 talks.1)
    spoke (Err cut) (inr (inl is)) leaves =
        let talks = rw is.is at leaves.1 in
        rw (leaves.2, is.is) (opens_all laws (name_of settings) (word_of settings) (at link []) session.mid leaves.0
        refl [] is.enters.3 talks.0 talks.1)
    spoke (Err cut) (inr (inr is)) leaves = planned_talk (Err cut) is leaves

-- its commands are the first of a plan without steps
follows_no_steps : Below → (settings : Settings) → IsValid settings → {turns : List Turn} {link link' : Link} → IsTail turns
    → (it : OpensAlone (name_of settings) (word_of settings) turns link link') → FollowsPlan settings [] it.sent
follows_no_steps laws settings valid kind it =
    let whole = commanded_opening laws _ _ valid.valid_username valid.valid_password kind it.said in
    search (
      whole.asked,
      front_of_plan {steps = []} (it.said.later ++ quit ∷ [])
          (ap (λ (ts : List Turn). ts ++ quit ∷ []) it.said.split ∙ simp append_assoc) kind whole,
    )

-- ---- What a session with an mboxrd file sends follows a plan.

pub mbox_sessions_follow_plans : Below → MboxSessionsFollowPlans
mbox_sessions_follow_plans laws settings now link before report link' after valid session =
    by (course_of session) (session_spoke laws valid session)
  where
    by : (session_course : SessionCourse)
        → Spoke settings AsEntries now (keeps_entries before) link link' session.result session.notes.lines
        session_course → (sent : List ℕ) × (link'.sent ≡ link.sent ++ sent) × (steps : List Step) × FollowsPlan settings steps sent
    by Idle it = (it.sent, it.sent_is, [], follows_no_steps laws settings valid (is_tail_for session.result) it)
    by (Deals c) p = (p.sent, p.sent_is, planned settings none_odd p.by.rows p.items now, p.follows)

commands_of : (commands : List Command) → commands_in (map Some commands) ≡ commands
commands_of [] = refl
commands_of (command ∷ commands) = ap (λ (l : List Command). command ∷ l) (commands_of commands)

pub sessions_are_conversations : Below → SessionsAreConversations
sessions_are_conversations laws settings account now link before report link' after valid session =
    by (course_of session) (λ idle ended. not_idle session.result session.proceeds idle (sym session.reports.outcome_is ∙ ended))
    (session_spoke laws valid session)
  where
    not_idle : (result : Result (Unit {0}) Cut) → (is : Proceeds settings (AsFiles account) now (at link []) (keeps_files before) result
        session.mid (keeps_files after) session.notes) → course_proceeded settings (AsFiles account) now (at link [])
        (keeps_files before) result session.mid (keeps_files after) session.notes is ≡ Idle → outcome_of result ≡ Ended → ⊥
    not_idle (Ok done) is idle ended = cc
    not_idle (Err cut) is idle ended = cc

    -- if the listing was joined
    by_plan : (c : Course) → (p : Planned settings (AsFiles account) now (keeps_files before) link link' session.result
        session.notes.lines c) → SpeaksByPlan settings account now before report p.sent p.got
    by_plan c p = record {
      items = p.items;
      rows = p.by.rows;
      said =
          let is : Conversation (opening_of settings ++ p.by.took.done) (replies_to p.enters.3 ++ p.by.took.replies)
          p.by.took.begun (tail_behind report.outcome) p.sent p.got = rw session.reports.outcome_is p.is in
          search (p.split, p.by.took.one, is);
      found = ⊎_map (λ (mid, prepared, same). (prepared.was.rows, (prepared.was.intent, prepared.stood), sym same ∙ prepared.rows)) (λ none.
          let both = both_none p.by.took.done p.by.took.begun (sym p.by.took.all ∙ ap (λ (ts : List Task). flat_map turns_in ts) none) in
          (rw both.0, both.1)) p.by.found;
      follows = p.follows;
      listed = (
        _,
        _,
        _,
        _,
        _,
        _,
        _,
        ap (λ (ws : List WholeReply). (ws ++ p.enters.3.counted ∷ p.enters.3.named ∷ p.enters.3.sized ∷ [])
            ++ p.by.took.replies) (replied p.enters.3.welcome p.enters.3.talked.good).is,
        listed p.enters.3 p.enters.4,
      );
      counts = ⊎_map (λ same. ap retrieved_by same ∙ number) (λ (n, same, none, (reply, more)). (
        session.reports.outcome_is ∙ rw more at p.by.ahead.spare,
        (opening_of settings ++ turns_of c.taken, n, rw same, number, none),
      )) p.by.took.asks;
      ended = λ is.
          let whole = p.by.ahead.whole (sym session.reports.outcome_is ∙ is) in
          let begun = p.by.took.whole whole.0 in
          let later = ap (λ (ts : List Task). flat_map turns_in ts) whole.1 in
          (begun, later, all_sent begun later (ap tail_behind (sym session.reports.outcome_is ∙ is)));
    }
      where
        all_sent : p.by.took.begun ≡ [] → flat_map turns_in p.by.ahead.later ≡ [] → tail_for session.result ≡ []
            → HasSent (plan_commands (name_of settings) (word_of settings)
            (planned settings (is_odd account before.maildir) p.by.rows p.items now)) p.sent
        all_sent begun later none =
            let ahead = both_none p.whole.ahead p.whole.unsaid (sym p.whole.of_begun ∙ ap commands_in begun) in
            let ends = both_none p.whole.ends p.whole.unended (sym p.whole.of_tail ∙ ap commands_in none) in
            let done : plan_turns (name_of settings) (word_of settings)
            (planned settings (is_odd account before.maildir) p.by.rows p.items now) ≡ opening_of settings ++ p.by.took.done =
            p.split ∙ rw (begun, later) (append-nil (opening_of settings ++ p.by.took.done)) in
            let plan : plan_commands (name_of settings) (word_of settings)
            (planned settings (is_odd account before.maildir) p.by.rows p.items now) ≡ commands_in (opening_of settings ++ p.by.took.done) =
            sym (commands_of (plan_commands (name_of settings) (word_of settings)
            (planned settings (is_odd account before.maildir) p.by.rows p.items now))) ∙ ap commands_in done in
            let same : commands_in (opening_of settings ++ p.by.took.done) ++ (p.whole.ahead ++ p.whole.ends)
            ≡ plan_commands (name_of settings) (word_of settings)
            (planned settings (is_odd account before.maildir) p.by.rows p.items now) =
            rw (ahead.0, ends.0) (append-nil (commands_in (opening_of settings ++ p.by.took.done)) ∙ sym plan) in
            subst (λ (cs : List Command). HasSent cs p.sent) same p.whole.asked

        number : retrieved_by (turns_of c.taken) ≡ report.retrieved
        number = sym (taken_same c.taken (all_front IsTaskOfPlan (tasks_of c.taken) c.under p.plain) p.by.took.each)
            ∙ ap (λ (l : List ReportLine). count_by is_text_taken l) (sym p.by.ahead.told) ∙ sym session.reports.retrieved_is

    by : (session_course : SessionCourse) → (session_course ≡ Idle → report.outcome ≢ Ended)
        → Spoke settings (AsFiles account) now (keeps_files before) link link' session.result session.notes.lines session_course
        → (sent got : List ℕ) × (link'.sent ≡ link.sent ++ sent) × (link'.got ≡ link.got ++ got)
        × (EndsInOpening settings report sent got ⊎ SpeaksByPlan settings account now before report sent got)
    by Idle cut it =
        let said : Converses (opening_of settings) (tail_behind report.outcome) it.sent it.got = rw session.reports.outcome_is it.said in (
          it.sent,
          it.got,
          it.sent_is,
          it.got_is,
          inl (record { said = said; cut = cut refl; follows = follows_no_steps laws settings valid (is_tail_for session.result) it }),
        )
    by (Deals c) _ p = (p.sent, p.got, p.sent_is, p.got_is, inr (by_plan c p))
