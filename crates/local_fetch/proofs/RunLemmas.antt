-- What a server whose maildrop refuses nothing answers to the turns of a plan: a good reply to each.
use Rattle.std.{
  proofs.Common.{◌≡◌, ◌≤◌, ◌<◌, ◌+◌, ◌-◌, ◌^◌, ◌∙◌, ℕ, zero, suc, Bool, true, false, List, [], ◌∷◌, ◌++◌, None, Some, append_assoc, ap, Ok},
  proofs.Common.{ap₂, arith, codes, decimal, length, length-append, map, if◌then◌else◌, inl, inr, refl, slice_get, sym},
  proofs.lemmas.{Bool.{cond-false, false≢true, Decides.eqb_tells}, Cmp.nat_list_eq_equiv, Fmt.length-decimal-le},
  proofs.lemmas.List.{length-map, Folds.list_all-append},
  specs.List.{AllByRecursion, AllZip, flat_map},
}
use Rattle.pop3_wire.{
  proofs.{BodyLemmas.one_line, RowsLemmas.{is_line, no_lf_decimal, round_trip}},
  specs.{Commands.line_of, Honest.no_marks, Line.{HoldsNoLf, IsLine, crlf, ended}, Reading.{WholeReply, reply_bytes}},
  specs.declared.command.Command.{Command, TheVariants.{Dele, ListAll, Pass, Quit, Retr, Stat, UidlAll, User}},
  specs.World.{IsMessage, Message},
}
use Rattle.pop3_client.specs.Turns.{Turn, asking, dele, pass as pass_turn, quit, user as user_turn}
use Rattle.pop3_server.{
  specs.{AnswersLines.AnswersLines, declared.{rows.MessageRow.MessageRow, state.State.{State, TheVariants.{Authorization, Transaction}}}},
  specs.Maildrop.{DropMail, there},
  specs.ServerMachine.{DoesAction, Empties, Machine, action_of, is_open, left_count, left_total, listed, mark_at, message_row, said},
  specs.ServerMachine.{row_numbered, scan_line, uid_line, unless_marked},
  proofs.HonestLemmas.{AreServed, IsServed, are_served, did_sound, fresh_count, fresh_rows, count_left, run_sound},
  proofs.RemovalLemmas.some_refused,
}
use Rattle.fetch_runs.proofs.Turns.{CanBeSaid}
use Rattle.local_fetch.{specs.Good.IsWithin, proofs.ReplyLemmas.{IsGoodAnswer, IsSaid, given, plain, sizes_listed, stated, uids_listed}}

-- ---- plans

-- how far a plan has come: nothing was sent; USER was; PASS was, and RETR or DELE of the messages before a number; or QUIT
pub data Stage : Type 0 where
  Fresh : Stage
  Named : Stage
  Opened : ℕ → Stage
  Over : Stage

abbrev pub after : Stage → Command → Stage
after stage (User name) = Named
after stage (Pass word) = Opened 0
after stage (Retr number) = Opened number
after stage (Dele number) = Opened (number + 1)
after stage Quit = Over
after stage other = stage

-- the command may come then, if there are n messages
abbrev pub MayCome : List ℕ → List ℕ → ℕ → Stage → Command → Type 0
MayCome name word n Over c = ⊥
MayCome name word n Fresh (User u) = u ≡ name
MayCome name word n Named (Pass p) = p ≡ word
MayCome name word n (Opened k) Stat = k ≡ 0
MayCome name word n (Opened k) UidlAll = k ≡ 0
MayCome name word n (Opened k) ListAll = k ≡ 0
MayCome name word n (Opened k) (Retr number) = (0 < number) × (k ≤ number) × (number ≤ n)
MayCome name word n (Opened k) (Dele number) = (0 < number) × (k ≤ number) × (number ≤ n)
MayCome name word n (Opened k) Quit = Unit {0}
MayCome name word n stage other = ⊥

abbrev pub IsPlan : List ℕ → List ℕ → ℕ → Stage → List Turn → Type 0
IsPlan name word n stage [] = Unit {0}
IsPlan name word n stage (None ∷ turns) = ⊥
IsPlan name word n stage (Some c ∷ turns) = MayCome name word n stage c × IsPlan name word n (after stage c) turns

pub plan_front : (name word : List ℕ) (n : ℕ) (stage : Stage) (turns unsent : List Turn) → IsPlan name word n stage (turns ++ unsent)
    → IsPlan name word n stage turns
plan_front name word n stage [] unsent plan = tt
plan_front name word n stage (None ∷ turns) unsent plan = plan
plan_front name word n stage (Some c ∷ turns) unsent plan = (plan.0, plan_front name word n (after stage c) turns unsent plan.1)

-- ---- rows

-- the row at a place is that of the message there, and isn't marked
pub record IsAt (ms : List Message) (rows : List MessageRow) (i : ℕ) : Type 0 where
  message : Message
  row : unless_marked (slice_get rows i) ≡ Some (message_row message)
  slot : slice_get (map Some ms) i ≡ Some (Some message)
  served : IsServed message
  within : IsWithin message

served_at : (ms : List Message) (i : ℕ) → i < length ms → AllByRecursion IsServed ms → AllByRecursion IsWithin ms
    → IsAt ms (map message_row ms) i
served_at [] i less served within = absurd (omega (arith, less))
served_at (m ∷ ms) zero less served within = record { message = m; row = refl; slot = refl; served = served.0; within = within.0 }
served_at (m ∷ ms) (suc i) less served within =
    let later = served_at ms i (omega (arith, less)) served.1 within.1 in
    record { message = later.message; row = later.row; slot = later.slot; served = later.served; within = later.within }

-- the row of a number above 0
numbered_at : (ms : List Message) (rows : List MessageRow) (number : ℕ) → 0 < number → (place : IsAt ms rows (number - 1))
    → row_numbered rows number ≡ Some (message_row place.message)
numbered_at ms rows number some place = elim (eqb_tells number 0) [
  | inl p ↦ absurd (omega (arith, p.1, some))
  | inr p ↦ cond-false _ _ _ p.0 ∙ place.row
]

-- another row is marked
mark_other : (rows : List MessageRow) (i k : ℕ) → k < i → slice_get (mark_at rows k) i ≡ slice_get rows i
mark_other [] i k less = refl
mark_other (row ∷ rows) zero k less = absurd (omega (arith, less))
mark_other (row ∷ rows) (suc i) zero less = refl
mark_other (row ∷ rows) (suc i) (suc k) less = mark_other rows i k (omega (arith, less))

marked_at : (ms : List Message) (rows : List MessageRow) (i k : ℕ) → k < i → IsAt ms rows i → IsAt ms (mark_at rows k) i
marked_at ms rows i k less was = record {
  message = was.message;
  row = ap unless_marked (mark_other rows i k less) ∙ was.row;
  slot = was.slot;
  served = was.served;
  within = was.within;
}

-- what STAT tells of fresh rows
fresh_left : (ms : List Message) → AreServed ms → (left_count (map message_row ms) ≡ length ms) × (left_total (map message_row ms) < 2 ^ 64)
fresh_left ms served =
    let left = count_left ms (no_marks ms) served.served (length-map ms _) in
    let few : length ms ≤ 100000 = served.few in
    rw (fresh_rows ms) (left.0 ∙ fresh_count ms, omega (arith, left.1, few))

-- the server is open to these messages; from the number k on none is marked, and with 0 none at all
pub record IsOpen (ms : List Message) (k : ℕ) (state : State) (mail : DropMail) : Type 0 where
  rows : List MessageRow
  is : state ≡ Transaction rows
  slots : mail.slots ≡ map Some ms
  served : AreServed ms
  fresh : k ≡ 0 → rows ≡ map message_row ms
  unmarked : (i : ℕ) → k ≤ i + 1 → i < length ms → IsAt ms rows i

-- an answer that changes nothing
open_unchanged : (ms : List Message) (k number : ℕ) (state next : State) (old new : DropMail) (opened : IsOpen ms k state old) → k ≤ number
    → next ≡ Transaction opened.rows → new.slots ≡ old.slots → IsOpen ms number next new
open_unchanged ms k number state next old new opened less next_is same = record {
  rows = opened.rows;
  is = next_is;
  slots = same ∙ opened.slots;
  served = opened.served;
  fresh = λ none. opened.fresh (omega (arith, less, none));
  unmarked = λ i from fits. opened.unmarked i (omega (arith, less, from)) fits;
}

-- ---- one answer

-- all that was marked was removed
quit_answered : (n : ℕ) (all : Bool) (answer : List ℕ) (rows : List MessageRow) (old new : DropMail)
    → answer ≡ said (if all then codes "+OK bye" else codes "-ERR some messages not removed") → Empties 0 rows old all new
    → new.failures ≡ old.failures → IsGoodAnswer n quit answer
quit_answered n true answer rows old new is empties still =
    plain n quit answer (codes " bye") is refl (omega arith) (λ gives. absurd (false≢true gives)) refl (λ first. tt)
quit_answered n false answer rows old new is empties still = absurd (omega (arith, some_refused empties refl, still))

module _ {D : Type 0} (sound : D → Type 0) (mail : D → DropMail) (name word : List ℕ) (ms : List Message)
    (messages : AllByRecursion IsMessage ms) (within : AllByRecursion IsWithin ms) where
  abbrev n : ℕ
  n = length ms

  -- the server at a stage of the plan
  abbrev pub Stands : Stage → Machine D → Type 0
  Stands Fresh server = (server.state ≡ Authorization None) × (there (mail server.drop).slots ≡ ms)
  Stands Named server = (server.state ≡ Authorization (Some name)) × (there (mail server.drop).slots ≡ ms)
  Stands (Opened k) server = IsOpen ms k server.state (mail server.drop)
  Stands Over server = Unit {0}

  -- a good answer, after which the plan may go on
  abbrev GoesOn : Stage → Command → List ℕ → Machine D → Type 0
  GoesOn stage c answer next = IsGoodAnswer n (Some c) answer × Stands (after stage c) next

  -- an answer by the rows, which stay
  by_rows : (k : ℕ) (old next : Machine D) (opened : IsOpen ms k old.state (mail old.drop)) → next.state ≡ Transaction opened.rows
      → next.drop ≡ old.drop → IsOpen ms k next.state (mail next.drop)
  by_rows k old next opened state same =
      open_unchanged ms k k old.state next.state (mail old.drop) (mail next.drop) opened (omega arith) state
      (ap (λ (d : D). (mail d).slots) same)

  step : (stage : Stage) (c : Command) (old next : Machine D) (answer : List ℕ) → Stands stage old → MayCome name word n stage c
      → old.user ≡ name → old.pass ≡ word
      → DoesAction sound mail (action_of old.user old.pass old.state (Ok c)) old.drop answer next.state next.drop → sound next.drop
      → (mail next.drop).failures ≡ (mail old.drop).failures → GoesOn stage c answer next
  step Fresh (User u) old next answer (state, are) may user pass does s still =
      let does = rw state at does in (
        plain n (user_turn u) answer (codes " send PASS") does.0 refl (omega arith) (λ gives. absurd (false≢true gives)) refl (λ first. tt),
        (does.1 ∙ ap (λ (v : List ℕ). Authorization (Some v)) may, rw does.2 are),
      )
  step Named (Pass p) old next answer (state, are) may user pass does s still =
      let does = rw (state, user, pass, may, nat_list_eq_equiv.refl name, nat_list_eq_equiv.refl word) at does in
      elim does [
        | inl (is, closed, known) ↦ absurd (omega (arith, ap (λ (m : DropMail). m.failures) (known s).1, still))
        | inr (rows, limits, is, state', known) ↦
            let (changed, rows_are) = rw are at (known s).1 in
            let served = are_served ms rows messages limits rows_are in
            let few : length rows ≤ 100000 = limits.few in
            let rest = 32 ∷ (decimal (length rows) ++ codes " messages") in
            let none : HoldsNoLf rest = simp (list_all-append, no_lf_decimal (length rows) (omega (arith, few))) in
            let short : length rest ≤ 2000 = omega (
              arith,
              length-append (decimal (length rows)) (codes " messages"),
              length-decimal-le 10 (length rows) (omega arith) (omega (arith, few)) (omega (arith, few)),
            ) in (
              plain n (pass_turn p) answer rest is none short (λ gives. absurd (false≢true gives)) refl (λ first. tt),
              record {
                rows = rows;
                is = state';
                slots = ap (λ (m : DropMail). m.slots) changed;
                served = served;
                fresh = λ none. rows_are;
                unmarked = λ i from fits. rw rows_are (served_at ms i fits served.served within);
              },
            )
      ]
  step (Opened k) Stat old next answer opened may user pass does s still =
      let does = rw opened.is at does in
      let rows = opened.fresh may in
      let left = fresh_left ms opened.served in (
        stated n answer (left_count opened.rows) (left_total opened.rows) does.0 (rw rows left.0) opened.served.few (rw rows left.1),
        by_rows k old next opened does.1 does.2,
      )
  step (Opened k) UidlAll old next answer opened may user pass does s still =
      let does = rw opened.is at does in (
        uids_listed answer ms opened.served.served opened.served.few (does.0 ∙ ap (listed uid_line) (opened.fresh may)),
        by_rows k old next opened does.1 does.2,
      )
  step (Opened k) ListAll old next answer opened may user pass does s still =
      let does = rw opened.is at does in (
        sizes_listed answer ms opened.served.served opened.served.few (does.0 ∙ ap (listed scan_line) (opened.fresh may)),
        by_rows k old next opened does.1 does.2,
      )
  step (Opened k) (Retr number) old next answer opened (some, later, fits) user pass does s still =
      let place = opened.unmarked (number - 1) (omega (arith, some, later)) (omega (arith, some, fits)) in
      let does = rw (opened.is, numbered_at ms opened.rows number some place) at does in
      elim does.1 [
        | inl (is, known) ↦ absurd (omega (arith, ap (λ (m : DropMail). m.failures) (known s).1, still))
        | inr (text, is, known) ↦
            let (same, (message, there_is, body)) = (known s).1 in
            let found = rw opened.slots at there_is in
            let which : message ≡ place.message = cc (found, place.slot) in (
              given n number place.message answer text is (rw which at body) place.served.within place.within,
              open_unchanged ms k number old.state next.state (mail old.drop) (mail next.drop) opened later does.0
                  (ap (λ (m : DropMail). m.slots) same),
            )
      ]
  step (Opened k) (Dele number) old next answer opened (some, later, fits) user pass does s still =
      let place = opened.unmarked (number - 1) (omega (arith, some, later)) (omega (arith, some, fits)) in
      let does = rw (opened.is, numbered_at ms opened.rows number some place) at does in (
        plain n (dele number) answer (codes " marked") does.0 refl (omega arith) (λ gives. absurd (false≢true gives)) refl (λ first. tt),
        record {
          rows = mark_at opened.rows (number - 1);
          is = does.1;
          slots = rw does.2 opened.slots;
          served = opened.served;
          fresh = λ none. absurd (omega (arith, none));
          unmarked = λ i from less. marked_at ms opened.rows i (number - 1) (omega (arith, some, from))
              (opened.unmarked i (omega (arith, later, from)) less);
        },
      )
  step (Opened k) Quit old next answer opened may user pass does s still =
      let (state, (all, is, known)) = rw opened.is at does in
      (quit_answered n all answer opened.rows (mail old.drop) (mail next.drop) is (known s).1 still, tt)
  step stage c old next answer stands never user pass does s still = absurd never

  is_up : (stage : Stage) (c : Command) (server : Machine D) → Stands stage server → MayCome name word n stage c
      → is_open server.state ≡ true
  is_up Fresh c server stands may = rw stands.0 refl
  is_up Named c server stands may = rw stands.0 refl
  is_up (Opened k) c server stands may = rw stands.is refl
  is_up Over c server stands never = absurd never

  -- ---- all answers

  -- the replies to these turns are good, and begin the answers
  pub record AreReplied (turns : List Turn) (answers : List ℕ) : Type 0 where
    pub replies : List WholeReply
    pub rest : List ℕ
    pub is : answers ≡ flat_map reply_bytes replies ++ rest
    pub all : AllZip (IsSaid n) turns replies

  -- if these turns were sent first, and no whole line waits while the server is open
  pub all_replied : (new : Machine D) (waiting more : List ℕ) → (is_open new.state ≡ true → IsLine waiting) → sound new.drop
      → (stage : Stage) (turns : List Turn) (old : Machine D) (lines : List (List ℕ)) (answers : List ℕ)
      → Stands stage old → old.user ≡ name → old.pass ≡ word → IsPlan name word n stage turns → AllByRecursion CanBeSaid turns
      → AllByRecursion IsLine lines → flat_map ended lines ++ waiting ≡ asking turns ++ more
      → AnswersLines sound mail old lines answers new → (mail new.drop).failures ≡ (mail old.drop).failures → AreReplied turns answers
  all_replied new waiting more none s stage [] old lines answers stands user pass plan can each sent run still =
      record { replies = []; rest = answers; is = refl; all = tt }
  all_replied new waiting more none s stage (None ∷ turns) old lines answers stands user pass plan can each sent run still = absurd plan
  all_replied new waiting more none s stage (Some c ∷ turns) old [] answers stands user pass plan can each sent run still =
      absurd (none (rw run.1 (is_up stage c old stands plan.0)) (line_of c) (asking turns ++ more)
      (sent ∙ append_assoc (ended (line_of c)) (asking turns) more ∙ append_assoc (line_of c) crlf (asking turns ++ more)))
  all_replied new waiting more none s stage (Some c ∷ turns) old (line ∷ lines) answers stands user pass plan ((said, numbers), can) each
      sent (first, rest, next, is, turn, run) still =
      let same = one_line line (line_of c) (flat_map ended lines ++ waiting) (asking turns ++ more) each.0 (is_line c numbers said)
      (sym (append_assoc (ended line) (flat_map ended lines) waiting) ∙ sent ∙ append_assoc (ended (line_of c)) (asking turns) more) in
      let (now, on) = run_sound sound mail next new lines rest run s in
      let up = (did_sound sound mail _ old.drop first next.state next.drop turn.answers.does now).1 in
      let does = rw (same.0, round_trip c numbers said) at turn.answers.does in
      let (good, stands') = step stage c old next first stands plan.0 user pass does now (omega (arith, up, on, still)) in
      let later = all_replied new waiting more none s (after stage c) turns next lines rest stands' (turn.user ∙ user)
      (turn.pass ∙ pass) plan.1 can each.1 same.1 run (omega (arith, up, on, still)) in
      record {
        replies = good.0 ∷ later.replies;
        rest = later.rest;
        is = is ∙ ap₂ (λ (x y : List ℕ). x ++ y) good.1 later.is
            ∙ sym (append_assoc (reply_bytes good.0) (flat_map reply_bytes later.replies) later.rest);
        all = (good.2, later.all);
      }
