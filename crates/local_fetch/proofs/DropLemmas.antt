-- After a call that ended and deletes, without limits and with nothing odd, nothing is left in its server's maildrop.
use Rattle.std.{
  proofs.Common.{◌≡◌, ◌∙◌, ℕ, Bool, None, true, false, List, [], ◌∷◌, ◌++◌, ap, append-nil, append_assoc, codes, inl, map},
  proofs.Common.{refl, subst, sym},
  proofs.lemmas.{List.Folds.flat_map-map, Simd.map-map},
  specs.{List.{AllByRecursion, AllZip, flat_map}, String.string_bytes},
}
use Rattle.mail_terms.specs.Distinct.{AreDistinct}
use Rattle.pop3_wire.{
  specs.{Commands.line_of, Honest.no_marks, Line.{crlf, ended}, Reading.{WholeReply, body_bytes, reply_bytes}, Reply.indicator},
  specs.declared.{command.Command.{Command, TheVariants.{User, Pass, Stat, UidlAll, ListAll, Quit}}, reply.Status.TheVariants.Positive},
  specs.World.{IsMessage, Message},
  proofs.RowsLemmas.first_lines_are_read,
}
use Rattle.pop3_server.{
  specs.{AnswersLines.{AnswersLine, AnswersLines}, LoopLink.{Loop, Serves}, Maildrop.{DropMail, there}},
  specs.{ServerMachine.{Machine, greeting_line}, HonestServer.{IsAsked, command_lines, unmarked_of}},
  specs.declared.state.State.TheVariants.{Authorization},
  proofs.HonestLemmas.{answers_honestly, lines_cut, did_sound},
}
use Rattle.rc_file.specs.declared.settings.Settings.{Settings}
use Rattle.fetch_rules.specs.Limits.{SetsNoLimits}
use Rattle.mail_store.specs.FileName.{is_odd}
use Rattle.session_parts.specs.{Session.AccountFiles, declared.report.{Outcome.TheVariants.Ended, Report.Report}}
use Rattle.fetch_runs.{
  specs.{Accounts.{item_of, listing_of, message_ids}, Below.Below, Conversations.{SpeaksByPlan, step_commands}},
  specs.Sessions.IsGoodReply,
  proofs.Lists.all_front,
}
use Rattle.local_fetch.{
  specs.Local.loop_to,
  proofs.{LocalLemmas.{each_asked, of_session}, Marked.{after_greeting, all_marked, lists_maildrop, marks_after, none_later, replies_of}},
  proofs.Marked.{WholeTalk, steps_said, walk_on, whole_talk},
}

-- no message is left if all are marked
none_unmarked : (ms : List Message) → unmarked_of ms (map (λ _. true) ms) ≡ []
none_unmarked [] = refl
none_unmarked (m ∷ ms) = none_unmarked ms

-- the first of these replies is a positive one
says_yes : (command : Command) (replies : List WholeReply) (tail : List ℕ) → AllZip IsGoodReply (command ∷ []) replies
    → (rest : List ℕ) × (flat_map reply_bytes replies ++ tail ≡ indicator Positive ++ rest)
says_yes command [] tail never = absurd never
says_yes command (reply ∷ replies) tail good =
    let (after, is, _) = good.0.positive in
    ((((after ++ crlf) ++ body_bytes reply.body) ++ flat_map reply_bytes replies) ++ tail, rw is refl)

module _ {M : Type 0} (sound : M → Type 0) (mail : M → DropMail) where
  -- a server's answers to commands and to one more
  record Split (server : Machine M) (front : List Command) (command : Command) (answers : List ℕ) (last : Machine M) : Type 0 where
    before : List ℕ
    answer : List ℕ
    mid : Machine M
    is : answers ≡ before ++ answer
    run : AnswersLines sound mail server (command_lines front) before mid
    turn : AnswersLine sound mail mid (line_of command) answer last

  split : (server : Machine M) (front : List Command) (command : Command) (answers : List ℕ) (last : Machine M)
      → AnswersLines sound mail server (command_lines (front ++ command ∷ [])) answers last → Split server front command answers last
  split server [] command answers last (first, rest, next, is, turn, (none, same)) =
      record { before = []; answer = first; mid = server; is = is ∙ rw none (append-nil first); run = (refl, refl); turn = rw same turn }
  split server (c ∷ front) command answers last (first, rest, next, is, turn, run) =
      let later = split next front command rest last run in
      record {
        before = first ++ later.before;
        answer = later.answer;
        mid = later.mid;
        is = is ∙ ap (λ (l : List ℕ). first ++ l) later.is ∙ sym (append_assoc first later.before later.answer);
        run = (first, later.before, next, refl, turn, later.run);
        turn = later.turn;
      }

  module _ (laws : Below) (server : Machine M) (wire : Loop M) (serves : Serves sound mail (loop_to server) wire)
      (state : server.state ≡ Authorization None) (s : sound wire.machine.drop)
      (messages : AllByRecursion IsMessage (there (mail server.drop).slots))
      (distinct : AreDistinct (message_ids (there (mail server.drop).slots)))
      {settings : Settings} {account : List ℕ} {now : ℕ} {before : AccountFiles} {report : Report}
      (said : SpeaksByPlan settings account now before report wire.link.sent wire.link.got) (is_ended : report.outcome ≡ Ended)
      (delete : settings.delete ≡ true) (unlimited : SetsNoLimits settings)
      (clear : before.maildir.odd ≡ []) where
    abbrev ms : List Message
    ms = there (mail server.drop).slots

    abbrev name : List ℕ
    name = string_bytes settings.username

    abbrev word : List ℕ
    word = string_bytes settings.password

    abbrev front : List Command
    front = User name ∷ Pass word ∷ Stat ∷ UidlAll ∷ ListAll ∷ flat_map step_commands (steps_said said)

    abbrev commands : List Command
    commands = front ++ Quit ∷ []

    abbrev talk : WholeTalk name word (steps_said said) said.items wire.link.sent wire.link.got
    talk = whole_talk said is_ended

    asked : AllByRecursion IsAsked commands
    asked = each_asked commands (of_session name word (steps_said said) commands (record {
      front = commands;
      behind = [];
      tail = [];
      plan = sym (append-nil commands);
      is_tail = inl refl;
      sent = sym (append-nil commands);
    })) talk.asked.numbers talk.asked.sendable

    -- all that the server answered; and what of that follows the replies that the session read
    abbrev heard : List ℕ
    heard = serves.more ++ serves.lost

    abbrev tail : List ℕ
    tail = talk.rest ++ (wire.left ++ serves.lost)

    answers : heard ≡ flat_map reply_bytes (replies_of laws talk) ++ tail
    answers =
        let told : wire.link.got ++ wire.left ≡ greeting_line ++ serves.more =
        serves.told (sym (append-nil greeting_line)) ∙ ap (λ (l : List ℕ). greeting_line ++ l) serves.answers in
        after_greeting laws talk (codes "+OK popd ready") heard (wire.left ++ serves.lost)
        (first_lines_are_read Positive (codes " popd ready") refl).0
        (sym (append_assoc greeting_line serves.more serves.lost) ∙ ap (λ (l : List ℕ). l ++ serves.lost) (sym told)
        ∙ append_assoc wire.link.got wire.left serves.lost)

    -- the server answered all commands
    run : AnswersLines sound mail server (command_lines commands) heard serves.last
    run =
        let cut = lines_cut serves.lines commands wire.waiting talk.asked.part serves.each asked talk.asked.no_line
        (sym serves.heard ∙ sym serves.sent ∙ talk.asked.whole
        ∙ ap (λ (l : List ℕ). l ++ talk.asked.part) (sym (flat_map-map ended line_of commands))) in
        let answered : AnswersLines sound mail server (command_lines cut.first) heard serves.last =
        rw cut.lines_are at serves.run in
        let all = answers_honestly sound mail server serves.last cut.first heard state
        (all_front IsAsked cut.first cut.later (subst (AllByRecursion IsAsked) cut.all asked)) answered
        (serves.same.unanswered.messages s).0 messages in
        let (_, others, good, more) = walk_on laws.reading ms (no_marks ms) all.0 cut.first cut.later (replies_of laws talk)
        heard [] tail all.1
        (subst (λ (cs : List Command). AllZip IsGoodReply cs (replies_of laws talk)) cut.all talk.good)
        (append-nil heard ∙ answers) in
        let whole : commands ≡ cut.first = cut.all ∙ rw (none_later cut.later others tail good more) (append-nil cut.first) in
        subst (λ (cs : List Command). AnswersLines sound mail server (command_lines cs) heard serves.last) (sym whole) answered

    marked : marks_after (no_marks ms) front ≡ map (λ _. true) ms
    marked =
        let all = answers_honestly sound mail server serves.last commands heard state asked run
        (serves.same.unanswered.messages s).0 messages in
        let items : said.items ≡ listing_of ms =
        lists_maildrop laws talk ms all.0 heard tail all.1 (append-nil heard ∙ answers) in
        let each = all_marked settings (is_odd account before.maildir) said.rows said.items now delete unlimited (λ id. rw clear refl)
        (rw (items, map-map) distinct) in
        sym (ap (λ (marks : List Bool). marks_after marks front) (flags false items))
        ∙ each ∙ flags true items
      where
        flags : (flag : Bool) → said.items ≡ listing_of ms → map (λ _. flag) said.items ≡ map (λ _. flag) ms
        flags flag items = rw items (map-map (λ _. flag) item_of ms)

    pub none_there : there (mail wire.machine.drop).slots ≡ []
    none_there =
        let (sound', same) = serves.same.unanswered.messages s in
        let parts = split server front Quit heard serves.last run in
        let sound_mid = (did_sound sound mail _ parts.mid.drop parts.answer serves.last.state serves.last.drop
        parts.turn.answers.does sound').0 in
        let all = answers_honestly sound mail server parts.mid front parts.before state (all_front IsAsked front (Quit ∷ []) asked)
        parts.run sound_mid messages in
        let (marks, others, good, more) = walk_on laws.reading ms (no_marks ms) all.0 front (Quit ∷ []) (replies_of laws talk)
        parts.before parts.answer tail all.1 talk.good (sym parts.is ∙ answers) in
        let (rest, begins) = says_yes Quit others tail good in
        same ∙ all.4 serves.last parts.answer rest parts.turn (more ∙ begins) sound'
        ∙ ap (unmarked_of ms) (marks ∙ marked) ∙ none_unmarked ms
