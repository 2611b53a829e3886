-- A session sends only commands that a server answers honestly.
use Rattle.std.{
  proofs.Common.{◌≡◌, inl, inr, ℕ, suc, Some, List, [], ◌∷◌, ◌++◌, Bool, true, refl, sym, ap, subst, ◌∙◌, ◌<◌, arith},
  proofs.lemmas.List.Folds.flat_map-map,
  specs.{String.string_bytes, List.{flat_map, AllByRecursion}},
}
use Rattle.pop3_wire.specs.{
  declared.command.Command.{Command, TheVariants.Quit},
  Line.ended,
  Link.Link,
  Commands.{line_of, can_be_sent},
  CommandLine.HasNumbers,
  World.{Message, IsMessage},
}
use Rattle.mail_terms.specs.FailureCount.{counted_up, greatest_count}
use Rattle.fetch_runs.specs.{
  Sessions.{IsMarked, Served},
  Conversations.{SessionsAreConversations, FollowsPlan, MboxSessionsFollowPlans, step_commands, plan_commands, IsFrontOfPlan},
}
use Rattle.rc_file.specs.{Settings.IsValid, declared.settings.Settings.Settings}
use Rattle.fetch_rules.specs.{Plan.planned, declared.plans.Step.Step}
use Rattle.mail_store.specs.{
  declared.{maildir.disk.MaildirDisk.Ghosts as DiskGhosts, file.flat_file.FlatFile.Ghosts as FileGhosts},
  FileName.is_odd,
}
use Rattle.session_parts.specs.{
  declared.work.Store.{Store, TheVariants.{Maildir as InMaildir, Mboxrd as InMbox}},
  declared.report.{Outcome.{Outcome, TheVariants.{Ended, Cut as WasCut}}, Report.Report},
  Refusal.RefusesByOutcome,
  Target.{IsSoundMaildir, IsSoundMbox, is_sound},
  Session.{AccountFiles, MboxAccountFiles, Session, MboxSession},
}
use Rattle.pop3_server.specs.{
  Maildrop.{DropMail, there},
  ServerMachine.Machine,
  HonestLoop.{IsUnused, GivesHonest},
  LoopLink.{Loop, Serves},
  HonestServer.{IsOfSession, IsAsked, AreLeftByQuit},
}
use Rattle.local_fetch.specs.Local.{AreWithout, IsServedByHonest, loop_to, unused}

-- what holds of a list holds of its front with another end
with_end : {A : Type 0} (P : A → Type 0) (xs ys zs : List A) → AllByRecursion P (xs ++ ys) → AllByRecursion P zs
    → AllByRecursion P (xs ++ zs)
with_end P [] ys zs all end = end
with_end P (x ∷ xs) ys zs all end = (all.0, with_end P xs ys zs all.1 end)

pub of_session : (name word : List ℕ) (steps : List Step) (commands : List Command) → IsFrontOfPlan name word steps commands
    → AllByRecursion IsOfSession commands
of_session name word steps commands front =
    let plan : AllByRecursion IsOfSession (plan_commands name word steps) = (tt, (tt, (tt, (tt, (tt, of_steps steps))))) in
    let end : AllByRecursion IsOfSession front.tail = grind (arith, front.is_tail) in
    rw front.sent (with_end IsOfSession front.front front.behind front.tail (subst (AllByRecursion IsOfSession) front.plan plan) end)
  where
    of_steps : (steps : List Step) → AllByRecursion IsOfSession (flat_map step_commands steps ++ Quit ∷ [])
    of_steps [] = (tt, tt)
    of_steps (s ∷ steps) = grind (arith, of_steps steps)

pub each_asked : (commands : List Command) → AllByRecursion IsOfSession commands → AllByRecursion HasNumbers commands
    → AllByRecursion (λ command. can_be_sent command ≡ true) commands → AllByRecursion IsAsked commands
each_asked [] of_session numbers sendable = tt
each_asked (c ∷ commands) of_session numbers sendable = (
  record { of_session = of_session.0; numbers = numbers.0; sendable = sendable.0 },
  each_asked commands of_session.1 numbers.1 sendable.1,
)

-- ---- refused calls

-- at most one of a new link's calls is refused in a session
pub few_refused : (old new : Link) (outcome : Outcome) → old.failures ≡ 0 → RefusesByOutcome old outcome new → new.failures < greatest_count
few_refused old new Ended none same = omega (arith, same, none)
few_refused old new (WasCut fault) none (inl same) = omega (arith, same, none)
few_refused old new (WasCut fault) none (inr up) = let one : new.failures ≡ 1 = up ∙ ap counted_up none in omega arith

-- ---- what vanished

-- the ids of the marked messages that are gone
missing : (before : List Message) (marks : List Bool) (after : List Message) → AreLeftByQuit before marks after
    → (ids : List (List ℕ)) × AllByRecursion (IsMarked before marks) ids × AreWithout before ids after
missing [] marks after none = ([], tt, (refl, none))
missing (m ∷ before) [] after never = absurd never
missing (m ∷ before) (mark ∷ marks) after left = elim left [
  | inl (rest, is, left') ↦ let (ids, marked, more) = missing before marks rest left' in (ids, later ids marked, inl (rest, is, more))
  | inr (is, left') ↦
      let (ids, marked, more) = missing before marks after left' in
      (m.uid ∷ ids, ((0, m, ap (λ (b : Bool). Some b) is, refl, refl), later ids marked), inr (ids, refl, more))
]
  where
    later : (ids : List (List ℕ)) → AllByRecursion (IsMarked before marks) ids → AllByRecursion (IsMarked (m ∷ before) (mark ∷ marks)) ids
    later [] all = tt
    later (id ∷ ids) ((place, m', is_marked, there, same), all) = ((suc place, m', is_marked, there, same), later ids all)

without_none : (messages : List Message) → AreWithout messages [] messages
without_none [] = (refl, refl)
without_none (m ∷ messages) = inl (messages, refl, without_none messages)

-- the store is of one of the two kinds
pub by_kind : {D F Goal : Type 0} (disk : DiskGhosts D) (file : FileGhosts F) (store : Store D F) → (IsSoundMaildir disk store → Goal)
    → (IsSoundMbox file store → Goal) → is_sound disk file store → Goal
by_kind disk file (InMaildir device) maildir mbox sound = maildir sound
by_kind disk file (InMbox device) maildir mbox sound = mbox sound

module _ {M : Type 0} (sound : M → Type 0) (mail : M → DropMail) (honesty : GivesHonest sound mail) where
  -- all that was sent over the new server's link follows a plan
  over : (settings : Settings) {server : Machine M} {loop : Loop M} → (sent : List ℕ) × (loop.link.sent ≡ sent)
      × (steps : List Step) × FollowsPlan settings steps sent
      → IsUnused (loop_to server) → Serves sound mail (loop_to server) loop → sound loop.machine.drop
      → AllByRecursion IsMessage (there (mail server.drop).slots) → IsServedByHonest mail server loop.machine loop.link
  over settings {server} {loop} (sent, sent_is, steps, s) is_new serves sound' messages =
      let before = there (mail server.drop).slots in
      let all = honesty (loop_to server) loop s.commands s.asked.part is_new serves
      (each_asked s.commands (of_session (string_bytes settings.username) (string_bytes settings.password) steps
      s.commands s.front) s.asked.numbers s.asked.sendable) s.asked.no_line
      (sent_is ∙ s.asked.whole ∙ ap (λ (l : List ℕ). l ++ s.asked.part) (sym (flat_map-map ended line_of s.commands))) sound' messages in
      elim all.3 [
        | inl still ↦ record {
          vanished = [];
          served = record { marks = all.0; honest = all.1; marked = tt };
          quits = inl refl;
          left = rw (all.2.before_quit still) (without_none before);
        }
        | inr quits ↦
            let (ids, marked, left) = missing before all.0 (there (mail loop.machine.drop).slots) all.2.left in
            record { vanished = ids; served = record { marks = all.0; honest = all.1; marked = marked }; quits = inr quits; left = left }
      ]

  pub fetches : SessionsAreConversations
      → (settings : Settings) (account : List ℕ) (now : ℕ) (server : Machine M) (loop : Loop M) (before : AccountFiles)
      (report : Report) (after : AccountFiles) → IsUnused (loop_to server) → IsValid settings → Serves sound mail (loop_to server) loop
      → Session settings account now unused before report loop.link after → sound loop.machine.drop
      → AllByRecursion IsMessage (there (mail server.drop).slots) → IsServedByHonest mail server loop.machine loop.link
  fetches conversations settings account now server loop before report after is_new valid serves session =
      let said = conversations settings account now unused before report loop.link after valid session in
      let follows : (steps : List Step) × FollowsPlan settings steps said.0 =
      elim said.4 [
        | inl opens ↦ ([], opens.follows)
        | inr plan ↦ (planned settings (is_odd account before.maildir) plan.rows plan.items now, plan.follows)
      ] in
      over settings (said.0, said.2, follows.0, follows.1) is_new serves

  pub mbox_fetches : MboxSessionsFollowPlans
      → (settings : Settings) (now : ℕ) (server : Machine M) (loop : Loop M) (before : MboxAccountFiles)
      (report : Report) (after : MboxAccountFiles) → IsUnused (loop_to server) → IsValid settings → Serves sound mail (loop_to server) loop
      → MboxSession settings now unused before report loop.link after → sound loop.machine.drop
      → AllByRecursion IsMessage (there (mail server.drop).slots) → IsServedByHonest mail server loop.machine loop.link
  mbox_fetches plans settings now server loop before report after is_new valid serves session =
      over settings (plans settings now unused before report loop.link after valid session) is_new serves

-- the octets of a link that wasn't used before are all that it gained
pub served_by : (link : Link) {was drop : List Message} {vanished : List (List ℕ)} → was ≡ drop → Served was link.sent link.got vanished
    → (sent got : List ℕ) → link.sent ≡ sent → link.got ≡ got → Served drop sent got vanished
served_by link same served sent got sent_is got_is = rw (← same, ← sent_is, ← got_is) served
