-- An ended session with `delete`, without limits and over a Maildir in which nothing is odd, has marked all messages of an
-- honest server before its QUIT.
use Rattle.std.{
  proofs.Common.{◌≡◌, ◌∙◌, ◌+◌, ◌-◌, ℕ, Bool, true, false, List, [], ◌∷◌, ◌++◌, Some, ap, append-nil, append_assoc, arith},
  proofs.Common.{length, length-append, map, refl, slice_set, sym},
  proofs.lemmas.List.{Elements.recursion_from_All, set_at},
  specs.{List.{AllByRecursion, AllZip, enumerate_from, flat_map}, String.string_bytes},
}
use Rattle.pop3_wire.specs.{
  declared.command.Command.{Command, TheVariants.{Stat, UidlAll, ListAll, Retr, Dele, Rset, Top, Quit}},
  Honest.{Grants, HasSent, Replies, no_marks},
  Line.{IsLine, crlf, ended},
  Reading.{OneReading, WholeReply, body_bytes, reply_bytes},
  World.Message,
}
use Rattle.pop3_client.specs.Turns.{IsGood, greeting}
use Rattle.mail_terms.specs.Listing.{HasDistinctIds, Item, numbered}
use Rattle.rc_file.specs.declared.settings.Settings.{Settings}
use Rattle.fetch_record.specs.Record.{Row}
use Rattle.fetch_rules.{
  specs.{Limits.SetsNoLimits, Plan.{fetches, planned, step_of}, declared.plans.Step.Step},
  proofs.PlanLemmas.all_deleted,
}
use Rattle.mail_store.specs.FileName.{is_odd}
use Rattle.session_parts.specs.{Session.AccountFiles, declared.report.{Outcome.TheVariants.Ended, Report.Report}}
use Rattle.fetch_runs.{
  specs.{Accounts.listing_of, Below.Below, Conversations.{SpeaksByPlan, asked_if, plan_commands, step_commands}},
  specs.Sessions.{AreGood, IsGoodReply, IsListed},
  proofs.{Listed.{granted, listing_is_maildrop, walk}, Talk.no_greeting_body, Turns.replies_read},
}

-- ---- the marks after commands that were granted

abbrev mark_by : Command → List Bool → List Bool
mark_by (Dele number) marks = slice_set marks (number - 1) true
mark_by Rset marks = map (λ _. false) marks
mark_by _ marks = marks

abbrev pub marks_after : List Bool → List Command → List Bool
marks_after marks [] = marks
marks_after marks (command ∷ commands) = marks_after (mark_by command marks) commands

granted_marks : (drop : List Message) (marks : List Bool) (command : Command) (bytes : List ℕ) (next : List Bool)
    → Grants drop marks command bytes next → next ≡ mark_by command marks
granted_marks drop marks Stat bytes next g = g.4
granted_marks drop marks UidlAll bytes next g = g.1
granted_marks drop marks ListAll bytes next g = g.1
granted_marks drop marks (Retr number) bytes next g = g.7
granted_marks drop marks (Top number lines) bytes next never = absurd never
granted_marks drop marks other bytes next g = g.1

module _ (law : OneReading) (drop : List Message) where
  -- if these commands, which were answered, and later ones have such replies, the marks are known, and the later ones follow
  pub walk_on : (marks last : List Bool) (commands later : List Command) (replies : List WholeReply) (bytes more tail : List ℕ)
      → Replies drop marks commands bytes last → AllZip IsGoodReply (commands ++ later) replies
      → bytes ++ more ≡ flat_map reply_bytes replies ++ tail → (last ≡ marks_after marks commands)
      × (others : List WholeReply) × AllZip IsGoodReply later others × (more ≡ flat_map reply_bytes others ++ tail)
  walk_on marks last [] later replies bytes more tail said good e = (said.1, replies, good, rw said.0 at e)
  walk_on marks last (command ∷ commands) later [] bytes more tail said good e = absurd good
  walk_on marks last (command ∷ commands) later (reply ∷ replies) bytes more tail (first, rest, next, is, one, said) good e =
      let (grants, e') = granted law drop marks command first next reply (rest ++ more) (flat_map reply_bytes replies ++ tail)
      one good.0 (rw (← append_assoc, ← is) (e ∙ append_assoc (reply_bytes reply) (flat_map reply_bytes replies) tail)) in
      let (last_is, others, each, more_is) = walk_on next last commands later replies rest more tail said good.1 e' in (
        last_is ∙ ap (λ (ms : List Bool). marks_after ms commands) (granted_marks drop marks command (reply_bytes reply) next grants),
        others,
        each,
        more_is,
      )

-- no reply is empty
filled : (first body more tail : List ℕ) → [] ≡ (((first ++ crlf) ++ body) ++ more) ++ tail → ⊥
filled [] body more tail never = cc
filled (byte ∷ first) body more tail never = cc

pub none_later : (later : List Command) (others : List WholeReply) (tail : List ℕ) → AllZip IsGoodReply later others
    → [] ≡ flat_map reply_bytes others ++ tail → later ≡ []
none_later [] others tail good e = refl
none_later (command ∷ later) [] tail never e = absurd never
none_later (command ∷ later) (reply ∷ others) tail good e =
    absurd (filled reply.first (body_bytes reply.body) (flat_map reply_bytes others) tail e)

-- ---- the marks after a plan that deletes all

marks_append : (marks : List Bool) (a b : List Command) → marks_after marks (a ++ b) ≡ marks_after (marks_after marks a) b
marks_append marks [] b = refl
marks_append marks (command ∷ a) b = marks_append (mark_by command marks) a b

step_marks : (step : Step) (marks : List Bool) → step.delete ≡ true
    → marks_after marks (step_commands step) ≡ slice_set marks (step.number - 1) true
step_marks step marks deletes = rw deletes (by (fetches step))
  where
    by : (fetch : Bool) → marks_after marks (asked_if fetch (Retr step.number) ++ asked_if true (Dele step.number))
        ≡ slice_set marks (step.number - 1) true
    by true = refl
    by false = refl

steps_mark : (step : ℕ × Item → Step) → ((message : ℕ × Item) → (step message).number ≡ message.0) → (j : ℕ) (items : List Item)
    (before : List Bool) → j ≡ length before + 1 → AllByRecursion (λ message. (step message).delete ≡ true) (enumerate_from j items)
    → marks_after (before ++ map (λ _. false) items) (flat_map step_commands (map step (enumerate_from j items)))
    ≡ before ++ map (λ _. true) items
steps_mark step same j [] before at all = refl
steps_mark step same j (item ∷ items) before at all =
    let commands = flat_map step_commands (map step (enumerate_from (j + 1) items)) in
    let number : (step (j, item)).number ≡ j = same (j, item) in
    let place : length before ≡ (step (j, item)).number - 1 = omega (arith, at, number) in
    marks_append (before ++ false ∷ map (λ _. false) items) (step_commands (step (j, item))) commands
    ∙ ap (λ (marks : List Bool). marks_after marks commands) (step_marks (step (j, item)) (before ++ false ∷ map (λ _. false) items) all.0
    ∙ set_at before false (map (λ _. false) items) true ((step (j, item)).number - 1) place
    ∙ sym (append_assoc before (true ∷ []) (map (λ _. false) items)))
    ∙ steps_mark step same (j + 1) items (before ++ true ∷ []) (omega (arith, at, length-append before (true ∷ []))) all.1
    ∙ append_assoc before (true ∷ []) (map (λ _. true) items)

pub all_marked : (settings : Settings) (is_odd : List ℕ → Bool) (rows : List Row) (items : List Item) (now : ℕ)
    → settings.delete ≡ true → SetsNoLimits settings → ((id : List ℕ) → is_odd id ≡ false) → HasDistinctIds items
    → marks_after (map (λ _. false) items) (flat_map step_commands (planned settings is_odd rows items now)) ≡ map (λ _. true) items
all_marked settings is_odd rows items now delete unlimited clear distinct =
    steps_mark (step_of settings is_odd rows items now) (λ message. refl) 1 items [] refl
    (recursion_from_All _ (numbered items) (all_deleted settings is_odd rows items now delete unlimited clear distinct))

-- ---- an ended session

-- a session sent all commands of its plan, and each was answered well
pub record WholeTalk (name word : List ℕ) (steps : List Step) (items : List Item) (sent got : List ℕ) : Type 0 where
  pub asked : HasSent (plan_commands name word steps) sent
  pub hello : WholeReply
  pub greeted : IsGood greeting hello
  pub user : WholeReply
  pub pass : WholeReply
  pub stat : WholeReply
  pub uidl : WholeReply
  pub list : WholeReply
  pub more : List WholeReply
  pub good : AllZip IsGoodReply (plan_commands name word steps) (user ∷ pass ∷ stat ∷ uidl ∷ list ∷ more)
  pub listed : IsListed stat uidl list items
  pub rest : List ℕ
  pub whole : got ≡ ended hello.first ++ (flat_map reply_bytes (user ∷ pass ∷ stat ∷ uidl ∷ list ∷ more) ++ rest)

each_good : (commands : List Command) (replies : List WholeReply) → AllZip IsGood (map Some commands) replies
    → AllZip IsGoodReply commands replies
each_good [] [] good = tt
each_good (command ∷ commands) (reply ∷ replies) good =
    ((replies_read (Some command ∷ []) (reply ∷ []) [] (tt, tt) (good.0, tt)).0, each_good commands replies good.1)
each_good commands replies never = absurd never

are_good : (commands : List Command) (replies : List WholeReply) → AllZip IsGoodReply commands replies → AreGood commands replies
are_good [] [] good = tt
are_good (command ∷ commands) (reply ∷ replies) good = (good.0, are_good commands replies good.1)
are_good commands replies never = absurd never

module _ {settings : Settings} {account : List ℕ} {now : ℕ} {before : AccountFiles} {report : Report} {sent got : List ℕ}
    (said : SpeaksByPlan settings account now before report sent got) where
  abbrev pub steps_said : List Step
  steps_said = planned settings (is_odd account before.maildir) said.rows said.items now

  pub whole_talk : report.outcome ≡ Ended
      → WholeTalk (string_bytes settings.username) (string_bytes settings.password) steps_said said.items sent got
  whole_talk is =
      let (begun, later, asked) = said.ended is in
      let (hello, user, pass, stat, uidl, list, more, replies_are, listed) = said.listed in
      let commands = plan_commands (string_bytes settings.username) (string_bytes settings.password) steps_said in
      let done : greeting ∷ map Some commands ≡ said.said.done = said.said.split ∙ rw (begun, later) (append-nil said.said.done) in
      let good : AllZip IsGood (greeting ∷ map Some commands) (hello ∷ user ∷ pass ∷ stat ∷ uidl ∷ list ∷ more) =
      rw (← done, replies_are) at said.said.is.good in
      let replies = user ∷ pass ∷ stat ∷ uidl ∷ list ∷ more in
      let bytes = flat_map reply_bytes replies in
      let none : (ended hello.first ++ body_bytes hello.body) ++ (bytes ++ said.said.is.rest)
      ≡ ended hello.first ++ (bytes ++ said.said.is.rest) = rw (no_greeting_body hello.body good.0.body)
      (ap (λ (l : List ℕ). l ++ (bytes ++ said.said.is.rest)) (append-nil (ended hello.first))) in
      record {
        asked = asked;
        hello = hello;
        greeted = good.0;
        user = user;
        pass = pass;
        stat = stat;
        uidl = uidl;
        list = list;
        more = more;
        good = each_good commands replies good.1;
        listed = listed;
        rest = said.said.is.rest;
        whole = said.said.is.heard
            ∙ ap (λ (ws : List WholeReply). flat_map reply_bytes ws ++ said.said.is.rest) replies_are
            ∙ append_assoc (ended hello.first ++ body_bytes hello.body) bytes said.said.is.rest ∙ none;
      }

module _ (laws : Below) {name word : List ℕ} {steps : List Step} {items : List Item} {sent got : List ℕ}
    (talk : WholeTalk name word steps items sent got) where
  abbrev pub replies_of : List WholeReply
  replies_of = talk.user ∷ talk.pass ∷ talk.stat ∷ talk.uidl ∷ talk.list ∷ talk.more

  -- what a server said after its greeting, of which this was got
  pub after_greeting : (line answers behind : List ℕ) → IsLine line → ended line ++ answers ≡ got ++ behind
      → answers ≡ flat_map reply_bytes replies_of ++ (talk.rest ++ behind)
  after_greeting line answers behind is e =
      let bytes = flat_map reply_bytes replies_of in
      (laws.line line talk.hello.first answers (bytes ++ (talk.rest ++ behind)) is talk.greeted.line
      (e ∙ ap (λ (l : List ℕ). l ++ behind) talk.whole ∙ append_assoc (ended talk.hello.first) (bytes ++ talk.rest) behind
      ∙ ap (λ (l : List ℕ). ended talk.hello.first ++ l) (append_assoc bytes talk.rest behind))).1

  -- the listing is the maildrop's
  pub lists_maildrop : (drop : List Message) (last : List Bool) (answers tail : List ℕ)
      → Replies drop (no_marks drop) (plan_commands name word steps) answers last
      → answers ++ [] ≡ flat_map reply_bytes replies_of ++ tail → items ≡ listing_of drop
  lists_maildrop drop last answers tail said e =
      let commands = plan_commands name word steps in
      let good = are_good commands replies_of talk.good in
      listing_is_maildrop laws drop name word (flat_map step_commands steps ++ Quit ∷ []) talk.user talk.pass talk.stat talk.uidl talk.list
      talk.more items good (walk laws.reading drop (no_marks drop) last commands replies_of answers [] tail said good e) talk.listed
