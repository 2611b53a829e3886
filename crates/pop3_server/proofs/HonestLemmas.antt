-- The server's conversations are honest: how its rows follow the messages and their marks, and what each answer says.
use Rattle.std.{
  proofs.Common.{length-append, ◌≡◌, ◌⊎◌, inl, inr, ◌<◌, ◌≤◌, ◌+◌, ◌-◌, ◌*◌, ◌^◌, ℕ, zero, suc, Bool, true, false, cond, List, [], ◌∷◌, ap},
  proofs.Common.{◌++◌, map, length, refl, sym, subst, ◌∙◌, arith, append_assoc, Some, None, codes, not, slice_get, slice_set, decimal, Ok},
  proofs.Common.{Option, bytes_eq, ◌&&◌, ap₂, get_or},
  proofs.lemmas.Bool.{cond-true, cond-false, false≢true, Decides.eqb_tells},
  proofs.lemmas.List.{length-map, append-nil, length-set, Folds.{list_all-append, flat_map-map}, Elements.recursion_from_All},
  proofs.lemmas.List.{Sorted.IsPermutation-refl, Sums.{sum_by-cons, count_by-le-length}},
  specs.List.{flat_map, All, AllByRecursion, AllZip, count_by, enumerate_from},
}
use Rattle.pop3_wire.{
  specs.declared.command.Command.{Command, TheVariants.{User, Pass, Stat, UidlAll, ListAll, Retr, Dele, Rset, Noop, Quit}},
  specs.declared.reply.Status.TheVariants.{Positive, Negative},
  specs.{Rows.scan_row, CommandLine.HasNumbers, Stuffed.stuffed_lines, Line.{crlf, ended, HoldsNoLf, IsLine}, World.{Message, IsMessage}},
  specs.{Body.{dot, IsContent, unstuffed}, Fields.{number_and_size, number_and_id}, Commands.{line_of, can_be_sent}},
  specs.Honest.{SaysAnything, IsScanRow, IsUidRow, ListsAll, Reply, no_marks, Honest, Grants, Replies},
  proofs.RowsLemmas.{first_lines_are_read, is_line, no_lf_decimal, round_trip, scan_fields, scan_rows_are_read, uid_fields},
  proofs.RowsLemmas.uid_rows_are_read,
  proofs.BodyLemmas.{one_line, stuffed_is_body},
}
use Rattle.pop3_server.{
  specs.declared.{rows.MessageRow.MessageRow, state.State.{State, TheVariants.{Authorization, Transaction, Closed}}},
  specs.{AnswersLines.AnswersLines, Maildrop.{max_count, max_size, DropMail, there}, HonestLoop.GivesHonest},
  specs.ServerMachine.{said, is_unmarked, left_count, left_size, left_total, unless_marked, row_numbered, mark_at, unmarked, message_row},
  specs.ServerMachine.{scan_line, uid_line, lines_from, listed, IsSmall, KeepLimits, Machine, Action, Say, Open, Give, Leave, DoesAction},
  specs.ServerMachine.{action_of, is_open, octets_line, in_authorization, in_transaction, greeting_line},
  specs.HonestServer.{AreLeftByQuit, IsClosedByQuit, IsOfSession, IsAsked, command_lines, ConversesHonestly, Gone},
  specs.HonestServer.{RemovesAtQuit, unmarked_of},
  proofs.{RemovalLemmas.{few_left, none_gone, left_by_quit, unmarked_left}, RowLemmas.{row_with, rows_with}, SlotLemmas.there_map},
}
use Rattle.mail_terms.specs.Text.{lines_of_text, IsWhole, whole_text}

-- ---- messages that PASS listed

-- a message of a world, of a size that a server lists
pub record IsServed (message : Message) : Type 0 where
  pub is_message : IsMessage message
  pub within : message.size ≤ max_size

-- messages as a server lists them
pub record AreServed (messages : List Message) : Type 0 where
  pub served : AllByRecursion IsServed messages
  pub few : length messages ≤ max_count

all_served : (ms : List Message) → AllByRecursion IsMessage ms → AllByRecursion IsSmall (map message_row ms) → AllByRecursion IsServed ms
all_served [] messages small = tt
all_served (m ∷ ms) messages small = (record { is_message = messages.0; within = small.0 }, all_served ms messages.1 small.1)

pub are_served : (ms : List Message) (rows : List MessageRow) → AllByRecursion IsMessage ms → KeepLimits rows
    → rows ≡ map message_row ms → AreServed ms
are_served ms rows messages limits is =
    let few : length rows ≤ 100000 = limits.few in
    let count : length rows ≡ length ms = ap length is ∙ length-map ms message_row in
    record {
      served = all_served ms messages (recursion_from_All IsSmall (map message_row ms) (subst (All IsSmall) is limits.small));
      few = omega arith;
    }

-- ---- the rows of messages with their marks

pub fresh_rows : (ms : List Message) → map message_row ms ≡ rows_with ms (no_marks ms)
fresh_rows [] = refl
fresh_rows (m ∷ ms) = ap (λ (rows : List MessageRow). row_with m false ∷ rows) (fresh_rows ms)

pub cleared_rows : (ms : List Message) (bs : List Bool) → map unmarked (rows_with ms bs) ≡ rows_with ms (map (λ _. false) bs)
cleared_rows [] bs = refl
cleared_rows (m ∷ ms) [] = refl
cleared_rows (m ∷ ms) (b ∷ bs) = ap (λ (rows : List MessageRow). row_with m false ∷ rows) (cleared_rows ms bs)

pub marked_rows : (ms : List Message) (bs : List Bool) (i : ℕ) → mark_at (rows_with ms bs) i ≡ rows_with ms (slice_set bs i true)
marked_rows [] bs i = refl
marked_rows (m ∷ ms) [] i = refl
marked_rows (m ∷ ms) (b ∷ bs) zero = refl
marked_rows (m ∷ ms) (b ∷ bs) (suc i) = ap (λ (rows : List MessageRow). row_with m b ∷ rows) (marked_rows ms bs i)

-- the row at a place is that of an unmarked message, which is at this place, or there is none
unmarked_at : (ms : List Message) (bs : List Bool) (i : ℕ) → AllByRecursion IsServed ms
    → (unless_marked (slice_get (rows_with ms bs) i) ≡ None)
    ⊎ ((m : Message) × (unless_marked (slice_get (rows_with ms bs) i) ≡ Some (row_with m false)) × (slice_get ms i ≡ Some m)
    × (slice_get (map Some ms) i ≡ Some (Some m)) × IsServed m)
unmarked_at [] bs i all = inl refl
unmarked_at (m ∷ ms) [] i all = inl refl
unmarked_at (m ∷ ms) (true ∷ bs) zero all = inl refl
unmarked_at (m ∷ ms) (false ∷ bs) zero all = inr (m, refl, refl, refl, all.0)
unmarked_at (m ∷ ms) (b ∷ bs) (suc i) all = unmarked_at ms bs i all.1

pub unmarked_row : (ms : List Message) (bs : List Bool) (k : ℕ) → AllByRecursion IsServed ms → (row_numbered (rows_with ms bs) k ≡ None)
    ⊎ ((m : Message) × (row_numbered (rows_with ms bs) k ≡ Some (row_with m false)) × (slice_get ms (k - 1) ≡ Some m)
    × (slice_get (map Some ms) (k - 1) ≡ Some (Some m)) × IsServed m)
unmarked_row ms bs k all = elim (eqb_tells k 0) [
  | inl p ↦ inl (cond-true _ _ _ p.0)
  | inr p ↦ elim (unmarked_at ms bs (k - 1) all) [
    | inl none ↦ inl (cond-false _ _ _ p.0 ∙ none)
    | inr some ↦ inr (some.0, cond-false _ _ _ p.0 ∙ some.1, some.2, some.3, some.4)
  ]
]

-- how many messages aren't marked, and a bound of their octets
pub count_left : (ms : List Message) (bs : List Bool) → AllByRecursion IsServed ms → length bs ≡ length ms
    → (left_count (rows_with ms bs) ≡ count_by not bs) × (left_total (rows_with ms bs) ≤ 134217728 * length ms)
count_left [] [] all e = (refl, omega arith)
count_left [] (b ∷ bs) all e = absurd (omega arith)
count_left (m ∷ ms) [] all e = absurd (omega arith)
count_left (m ∷ ms) (b ∷ bs) all e =
    grind (
      arith,
      all.0.within,
      count_left ms bs all.1 (omega arith),
      sum_by-cons (λ row. cond (is_unmarked row) 1 0) (row_with m b) (rows_with ms bs),
      sum_by-cons (λ b. cond (not b) 1 0) b bs,
      sum_by-cons left_size (row_with m b) (rows_with ms bs),
    )

-- ---- first lines

pub reply_refuses : (ms : List Message) (bs : List Bool) (c : Command) (answer after : List ℕ)
    → answer ≡ said (codes "-ERR" ++ after) → HoldsNoLf after → Reply ms bs c answer bs
reply_refuses ms bs c answer after is none = inl ((after, ((first_lines_are_read Negative after none).0, is)), refl)

pub granted : (answer after : List ℕ) → answer ≡ said (codes "+OK" ++ after) → HoldsNoLf after → SaysAnything Positive answer
granted answer after is none = (after, ((first_lines_are_read Positive after none).0, is))

-- ---- listings

-- each row of a served message is a line of a body, and is read as that message's
abbrev pub GoodRows : (ℕ → MessageRow → List ℕ) → (ℕ × Message → List ℕ → Type 0) → Type 0
GoodRows line IsRow = (k : ℕ) (m : Message) → k ≤ 4294967295 → IsServed m → IsContent (line k (row_with m false))
    × IsRow (k, m) (unstuffed (line k (row_with m false)))

-- the messages that aren't marked, with their numbers, from this number on
abbrev unmarked_from : ℕ → List Message → List Bool → List (ℕ × Message)
unmarked_from number [] marks = []
unmarked_from number (m ∷ ms) [] = []
unmarked_from number (m ∷ ms) (mark ∷ marks) = cond mark (unmarked_from (number + 1) ms marks)
    ((number, m) ∷ unmarked_from (number + 1) ms marks)

all_listed : (n : ℕ) (ms : List Message) → unmarked_from n ms (no_marks ms) ≡ enumerate_from n ms
all_listed n [] = refl
all_listed n (m ∷ ms) = ap (λ (l : List (ℕ × Message)). (n, m) ∷ l) (all_listed (n + 1) ms)

pub fresh_count : (ms : List Message) → count_by not (no_marks ms) ≡ length ms
fresh_count [] = refl
fresh_count (m ∷ ms) = sum_by-cons (λ b. cond (not b) 1 0) false (no_marks ms) ∙ ap (λ (n : ℕ). 1 + n) (fresh_count ms) ∙ omega arith

rows_content : (line : ℕ → MessageRow → List ℕ) (IsRow : ℕ × Message → List ℕ → Type 0) → GoodRows line IsRow
    → (k : ℕ) (ms : List Message) (bs : List Bool) → k + length ms ≤ 4294967296 → AllByRecursion IsServed ms
    → (lines : List (List ℕ)) × (lines_from line k (rows_with ms bs) ≡ flat_map ended lines)
    × AllByRecursion IsContent lines × AllZip IsRow (unmarked_from k ms bs) (map unstuffed lines)
rows_content line IsRow good k [] bs few all = ([], refl, tt, tt)
rows_content line IsRow good k (m ∷ ms) [] few all = ([], refl, tt, tt)
rows_content line IsRow good k (m ∷ ms) (true ∷ bs) few all = rows_content line IsRow good (k + 1) ms bs (omega arith) all.1
rows_content line IsRow good k (m ∷ ms) (false ∷ bs) few all =
    let one = good k m (omega arith) all.0 in
    let more = rows_content line IsRow good (k + 1) ms bs (omega arith) all.1 in (
      line k (row_with m false) ∷ more.0,
      ap (λ (l : List ℕ). said (line k (row_with m false)) ++ l) more.1,
      (one.0, more.2),
      (one.1, more.3),
    )

pub scan_rows : GoodRows scan_line IsScanRow
scan_rows k m few served =
    let ((content, read), fields) = scan_rows_are_read k m.size few (omega (arith, served.within)) in
    (content, scan_fields _ k m (ap number_and_size read ∙ fields))

pub uid_rows : GoodRows uid_line IsUidRow
uid_rows k m few served =
    let ((content, read), fields) = uid_rows_are_read k m.uid few served.is_message.legal in
    (content, uid_fields _ k m (ap number_and_id read ∙ fields))

pub lists_all : (line : ℕ → MessageRow → List ℕ) (IsRow : ℕ × Message → List ℕ → Type 0) → GoodRows line IsRow
    → (ms : List Message) (bs : List Bool) (answer : List ℕ) → AreServed ms → answer ≡ listed line (rows_with ms bs)
    → ListsAll IsRow ms bs answer × (bs ≡ bs)
lists_all line IsRow good ms bs answer served is =
    let few : length ms ≤ 100000 = served.few in
    let rows = rows_content line IsRow good 1 ms bs (omega arith) served.served in (
      record {
        first = said (codes "+OK");
        says = granted (said (codes "+OK")) [] refl refl;
        lines = rows.0;
        content = rows.2;
        whole = is ∙ append_assoc (codes "+OK" ++ crlf) (lines_from line 1 (rows_with ms bs)) (ended dot)
            ∙ ap (λ (l : List ℕ). said (codes "+OK") ++ (l ++ ended dot)) rows.1;
        rows = λ none. (
          enumerate_from 1 ms,
          IsPermutation-refl (enumerate_from 1 ms),
          subst (λ (q : List (ℕ × Message)). AllZip IsRow q (map unstuffed rows.0)) (ap (unmarked_from 1 ms) none ∙ all_listed 1 ms) rows.3,
        );
      },
      refl,
    )

-- ---- each answer of the server to a command of a session is an honest reply, and so are all of them in order

-- the server's state with these messages, if these are marked
abbrev pub IsStateWith : List Message → State → DropMail → List Bool → Type 0
IsStateWith ms (Authorization kept) mail marks = (there mail.slots ≡ ms) × (marks ≡ no_marks ms)
IsStateWith ms (Transaction rows) mail marks = (mail.slots ≡ map Some ms) × (length marks ≡ length ms)
    × (rows ≡ rows_with ms marks) × AreServed ms
IsStateWith ms Closed mail marks = AreLeftByQuit ms marks (there mail.slots)

-- a text that ends in LF stays as it is
ended_stays : (front : List ℕ) → whole_text (front ++ 10 ∷ []) ≡ front ++ 10 ∷ []
ended_stays [] = refl
ended_stays (byte ∷ []) = refl
ended_stays (byte ∷ next ∷ more) = ap (λ (l : List ℕ). byte ∷ l) (ended_stays (next ∷ more))

whole_stays : (text : List ℕ) → IsWhole text → whole_text text ≡ text
whole_stays text (inl none) = rw none refl
whole_stays text (inr (front, is)) = rw is (ended_stays front)

-- commands that are asked can be sent, and their numbers fit
pub all_asked : (commands : List Command) → AllByRecursion IsAsked commands
    → AllByRecursion (λ c. can_be_sent c ≡ true) commands × AllByRecursion HasNumbers commands
all_asked [] all = (tt, tt)
all_asked (c ∷ commands) all = let more = all_asked commands all.1 in ((all.0.sendable, more.0), (all.0.numbers, more.1))

-- an honest reply, after which the server is in that state; only QUIT closes it
record Replied (ms : List Message) (marks : List Bool) (c : Command) (answer : List ℕ) (next : State) (mail : DropMail) : Type 0 where
  after : List Bool
  reply : Reply ms marks c answer after
  stands : IsStateWith ms next mail after
  closes : (is_open next ≡ true) ⊎ (c ≡ Quit)

-- one answer, with these messages in the maildrop at first
module _ {D : Type 0} (sound : D → Type 0) (mail : D
    → DropMail) (ms : List Message) (messages : AllByRecursion IsMessage ms) (old : D) (answer : List ℕ) (next : State)
    (new : D) (s : sound new) where
  -- by the state that is next, and the maildrop as it is then
  replies : {marks : List Bool} {c : Command} {state : State} {then_ : DropMail} (after : List Bool) → next ≡ state
      → mail new ≡ then_ → Reply ms marks c answer after
      → IsStateWith ms state then_ after → (is_open state ≡ true) ⊎ (c ≡ Quit) → Replied ms marks c answer next (mail new)
  replies after state known reply stands closes =
      record { after = after; reply = reply; stands = rw (state, known) stands; closes = rw state closes }

  -- a line that says no, and nothing changes
  says_no : {marks : List Bool} {c : Command} {state : State} (after : List ℕ) → (answer ≡ said (codes "-ERR" ++ after))
      × (next ≡ state) × (new ≡ old)
      → HoldsNoLf after → IsStateWith ms state (mail old) marks → is_open state ≡ true → Replied ms marks c answer next (mail new)
  says_no {marks} {c} after does none stands opened =
      replies marks does.1 (ap mail does.2) (reply_refuses ms marks c answer after does.0 none) stands (inl opened)

  -- a line that says yes, if no more is asked for
  says_yes : {marks : List Bool} {c : Command} {state : State} (after_marks : List Bool) (after : List ℕ)
      → (answer ≡ said (codes "+OK" ++ after)) × (next ≡ state) × (new ≡ old)
      → HoldsNoLf after → (SaysAnything Positive answer → Grants ms marks c answer after_marks)
      → IsStateWith ms state (mail old) after_marks → (is_open state ≡ true) ⊎ (c ≡ Quit) → Replied ms marks c answer next (mail new)
  says_yes after_marks after does none grants stands closes =
      replies after_marks does.1 (ap mail does.2) (inr (grants (granted answer after does.0 none))) stands closes

  -- ---- AUTHORIZATION

  passed : (word : List ℕ) (right : Bool) → there (mail old).slots ≡ ms
      → DoesAction sound mail (cond right Open (Say (said (codes "-ERR refused")) (Authorization None))) old answer next
      new → Replied ms (no_marks ms) (Pass word) answer next (mail new)
  passed word false same does = says_no (codes " refused") does refl (same, refl) refl
  passed word true same (inl (is, state, known)) =
      replies (no_marks ms) state (known s).1
      (reply_refuses ms (no_marks ms) (Pass word) answer (codes " maildrop unavailable") is refl) (same, refl) (inl refl)
  passed word true same (inr (rows, limits, is, state, known)) =
      let drop = (known s).1 in
      let same_rows : rows ≡ map message_row ms = drop.1 ∙ ap (map message_row) same in
      let few : length rows ≤ 100000 = limits.few in
      let none : HoldsNoLf (32 ∷ (decimal (length rows) ++ codes " messages")) =
      simp (list_all-append, no_lf_decimal (length rows) (omega arith)) in
      replies (no_marks ms) state drop.0 (inr (granted answer (32 ∷ (decimal (length rows) ++ codes " messages")) is none, refl))
      (ap (map Some) same, length-map ms _, same_rows ∙ fresh_rows ms, are_served ms rows messages limits same_rows) (inl refl)

  in_auth : (user pass : List ℕ) (kept : Option (List ℕ)) (c : Command) → there (mail old).slots ≡ ms
      → DoesAction sound mail (in_authorization user pass kept c) old answer next new → Replied ms (no_marks ms) c answer next (mail new)
  in_auth user pass kept (User name) same does = says_yes (no_marks ms) (codes " send PASS") does refl
      (λ says. (says, refl)) (same, refl) (inl refl)
  in_auth user pass None (Pass word) same does = says_no (codes " USER first") does refl (same, refl) refl
  in_auth user pass (Some name) (Pass word) same does = passed word (bytes_eq name user && bytes_eq word pass) same does
  in_auth user pass kept Quit same does =
      says_yes (no_marks ms) (codes " bye") does refl (λ says. (says, refl))
      (rw same (none_gone ms (no_marks ms) (length-map ms _))) (inr refl)
  in_auth user pass kept other same does = says_no (codes " not now") does refl (same, refl) refl

  -- ---- TRANSACTION

  module _ (marks : List Bool) (stands : IsStateWith ms (Transaction (rows_with ms marks)) (mail old) marks) where
    -- RETR of an unmarked message
    gave : (k : ℕ) (m : Message) → slice_get ms (k - 1) ≡ Some m → slice_get (map Some ms) (k - 1) ≡ Some (Some m) → IsServed m
        → DoesAction sound mail (Give (rows_with ms marks) (k - 1) (said (octets_line (row_with m false))) None) old
        answer next new → Replied ms marks (Retr k) answer next (mail new)
    gave k m at slot served (state, inl (is, known)) =
        replies marks state (known s).1 (reply_refuses ms marks (Retr k) answer (codes " message unavailable") is refl) stands (inl refl)
    gave k m at slot served (state, inr (text, is, known)) =
        let (_, (stays, (given, slot-is, texts))) = known s in
        let found = rw stands.0 at slot-is in
        let same : given ≡ m = cc in
        let words : stuffed_lines (lines_of_text text) ≡ stuffed_lines (lines_of_text m.text) = texts
        ∙ ap (λ (x : Message). stuffed_lines (lines_of_text x.text)) same in
        let none : HoldsNoLf (32 ∷ (decimal m.size ++ codes " octets")) =
        simp (list_all-append, no_lf_decimal m.size (omega (arith, served.within))) in
        replies marks state stays (inr (
          said (octets_line (row_with m false)),
          stuffed_lines (lines_of_text text),
          m,
          granted (said (octets_line (row_with m false))) (32 ∷ (decimal m.size ++ codes " octets")) refl none,
          is,
          at,
          rw words (rw (whole_stays m.text served.is_message.whole) at (stuffed_is_body m.text)),
          refl,
        )) stands (inl refl)

    stated : DoesAction sound mail (in_transaction (rows_with ms marks) Stat) old answer next new
        → Replied ms marks Stat answer next (mail new)
    stated does =
        let count = left_count (rows_with ms marks) in
        let total = left_total (rows_with ms marks) in
        let left = count_left ms marks stands.3.served stands.1 in
        let few : count_by not marks ≤ length marks = count_by-le-length not marks in
        let fewer : length marks ≤ 100000 = rw stands.1 stands.3.few in
        let small : count ≤ 4294967295 = omega arith in
        let fits : total < 2 ^ 64 = omega arith in
        let none : HoldsNoLf (32 ∷ scan_row count total) =
        simp (list_all-append, no_lf_decimal count (omega arith), no_lf_decimal total fits) in
        let (field, more, (word, are, value), size) = scan_fields (scan_row count total) count
        (record { uid = []; size = total; text = [] }) (scan_rows_are_read count total small (omega arith)).1 in
        replies marks does.1 (ap mail does.2) (inr (
          32 ∷ scan_row count total,
          field ∷ more,
          ((first_lines_are_read Positive (32 ∷ scan_row count total) none).0, does.0),
          λ fresh. (word, are, value ∙ left.0 ∙ ap (count_by not) fresh ∙ fresh_count ms),
          refl,
        )) stands (inl refl)

    in_trans : (c : Command) → IsOfSession c → DoesAction sound mail (in_transaction (rows_with ms marks) c) old answer next new
        → Replied ms marks c answer next (mail new)
    in_trans (User name) asked does = says_no (codes " not now") does refl stands refl
    in_trans (Pass word) asked does = says_no (codes " not now") does refl stands refl
    in_trans Stat asked does = stated does
    in_trans UidlAll asked does =
        replies marks does.1 (ap mail does.2)
        (inr (lists_all uid_line IsUidRow (uid_rows) ms marks answer stands.3 does.0)) stands (inl refl)
    in_trans ListAll asked does =
        replies marks does.1 (ap mail does.2)
        (inr (lists_all scan_line IsScanRow (scan_rows) ms marks answer stands.3 does.0)) stands (inl refl)
    in_trans (Retr k) asked does = elim (unmarked_row ms marks k stands.3.served) [
      | inl none ↦ says_no (codes " no such message") (rw none at does) refl stands refl
      | inr some ↦ gave k some.0 some.2 some.3 some.4 (rw some.1 at does)
    ]
    in_trans (Dele k) asked does = elim (unmarked_row ms marks k stands.3.served) [
      | inl none ↦ says_no (codes " no such message") (rw none at does) refl stands refl
      | inr some ↦ says_yes (slice_set marks (k - 1) true) (codes " marked") (rw some.1 at does) refl (λ says. (says, refl))
          (stands.0, length-set marks (k - 1) true ∙ stands.1, marked_rows ms marks (k - 1), stands.3) (inl refl)
    ]
    in_trans Rset asked does =
        says_yes (map (λ _. false) marks) [] does refl (λ says. (says, refl)) (
          stands.0,
          length-map marks _ ∙ stands.1,
          cleared_rows ms marks,
          stands.3,
        ) (inl refl)
    in_trans Noop asked does = says_yes marks [] does refl (λ says. (says, refl)) stands (inl refl)
    in_trans Quit asked (state, (true, is, known)) =
        replies marks state refl (inr (granted answer (codes " bye") is refl, refl))
        (left_by_quit ms marks (mail old) (mail new) true stands.1 stands.0 (known s).1) (inr refl)
    in_trans Quit asked (state, (false, is, known)) =
        replies marks state refl (reply_refuses ms marks Quit answer (codes " some messages not removed") is refl)
        (left_by_quit ms marks (mail old) (mail new) false stands.1 stands.0 (known s).1) (inr refl)
    in_trans other asked does = absurd asked

  replied : (marks : List Bool) (user pass : List ℕ) (state : State) (c : Command) → is_open state ≡ true
      → IsStateWith ms state (mail old) marks → IsOfSession c
      → DoesAction sound mail (action_of user pass state (Ok c)) old answer next new → Replied ms marks c answer next (mail new)
  replied marks user pass (Authorization kept) c opened stands asked does = rw stands.1 (in_auth user pass kept c stands.0 does)
  replied marks user pass (Transaction rows) c opened stands asked does =
      in_trans marks (stands.0, stands.1, refl, stands.3) c asked (rw stands.2 at does)
  replied marks user pass Closed c opened stands asked does = absurd (false≢true opened)

-- ---- all answers in order

module _ {D : Type 0} (sound : D → Type 0) (mail : D → DropMail) where
  -- a device that is sound was so before, and its count of refused calls didn't fall
  pub did_sound : (asked : Action) (old : D) (answer : List ℕ) (next : State) (new : D)
      → DoesAction sound mail asked old answer next new → sound new → sound old × ((mail old).failures ≤ (mail new).failures)
  did_sound (Say bytes state) old answer next new does s = (rw does.2 at s, rw does.2 (omega arith))
  did_sound Open old answer next new (inl (is, state, known)) s =
      ((known s).0, omega (arith, ap (λ (m : DropMail). m.failures) (known s).1))
  did_sound Open old answer next new (inr (rows, limits, is, state, known)) s =
      let (before, (stays, _)) = known s in (before, omega (arith, ap (λ (m : DropMail). m.failures) stays))
  did_sound (Give rows i line top) old answer next new (state, inl (is, known)) s =
      ((known s).0, omega (arith, ap (λ (m : DropMail). m.failures) (known s).1))
  did_sound (Give rows i line top) old answer next new (state, inr (text, is, known)) s =
      let (before, (stays, _)) = known s in (before, omega (arith, ap (λ (m : DropMail). m.failures) stays))
  did_sound (Leave rows) old answer next new (state, (all, is, known)) s = ((known s).0, omega (arith, few_left (known s).1))

  pub run_sound : (old new : Machine D) (lines : List (List ℕ)) (answers : List ℕ)
      → AnswersLines sound mail old lines answers new → sound new.drop
      → sound old.drop × ((mail old.drop).failures ≤ (mail new.drop).failures)
  run_sound old new [] answers (none, same) s = (rw same at s, rw same (omega arith))
  run_sound old new (line ∷ lines) answers (first, rest, next, is, turn, run) s =
      let later = run_sound next new lines rest run s in
      let now = did_sound _ old.drop first next.state next.drop turn.answers.does later.0 in (now.0, omega (arith, now.1, later.1))

  -- after the answer to a command, and the answers to others
  closed_by : {c : Command} {commands : List Command} (next last : State) → (is_open next ≡ true) ⊎ (c ≡ Quit)
      → (is_open next ≡ true → IsClosedByQuit last commands) → IsClosedByQuit last (c ∷ commands)
  closed_by {commands = commands} next last (inr quits) later = inr ([], commands, ap (λ (d : Command). d ∷ commands) quits)
  closed_by {c} next last (inl opened) later = elim (later opened) [
    | inl still ↦ inl still
    | inr (front, behind, split) ↦ inr (c ∷ front, behind, ap (λ (l : List Command). c ∷ l) split)
  ]

  all_replied : (ms : List Message) (marks : List Bool) (commands : List Command) (old new : Machine D) (answers : List ℕ)
      → AllByRecursion IsMessage ms → AllByRecursion IsAsked commands
      → AnswersLines sound mail old (command_lines commands) answers new → sound new.drop → IsStateWith ms old.state (mail old.drop) marks
      → (last : List Bool) × Replies ms marks commands answers last × IsStateWith ms new.state (mail new.drop) last
      × (is_open old.state ≡ true → IsClosedByQuit new.state commands)
  all_replied ms marks [] old new answers messages asked run s stands =
      (marks, (run.0, refl), rw run.1 stands, λ opened. inl (rw run.1 opened))
  all_replied ms marks (c ∷ commands) old new answers messages asked (first, rest, next, is, turn, run) s stands =
      let does = rw (round_trip c asked.0.numbers asked.0.sendable) at turn.answers.does in
      let one = replied sound mail ms messages old.drop first next.state next.drop
      (run_sound next new (command_lines commands) rest run s).0 marks old.user old.pass old.state c turn.was_open
      stands asked.0.of_session does in
      let more = all_replied ms one.after commands next new rest messages asked.1 run s one.stands in
      (more.0, (first, rest, one.after, is, one.reply, more.1), more.2, λ _. closed_by next.state new.state one.closes more.3)

  gone_at : (ms : List Message) (marks : List Bool) (state : State) (mail : DropMail) → IsStateWith ms state mail marks
      → Gone ms marks state (there mail.slots)
  gone_at ms marks (Authorization kept) mail stands =
      record { left = rw stands.0 (none_gone ms marks (ap length stands.1 ∙ length-map ms _)); before_quit = λ _. stands.0 }
  gone_at ms marks (Transaction rows) mail stands =
      let same : there mail.slots ≡ ms = ap there stands.0 ∙ there_map ms in
      record { left = rw same (none_gone ms marks stands.1); before_quit = λ _. same }
  gone_at ms marks Closed mail stands = record { left = stands; before_quit = λ e. absurd (false≢true e) }

  removes_at_quit : (ms : List Message) (marks : List Bool) (server : Machine D) → IsStateWith ms server.state (mail server.drop) marks
      → RemovesAtQuit sound mail ms marks server
  removes_at_quit ms marks server stands last answer rest turn positive s =
      by server.state stands turn.was_open (rw (round_trip Quit tt refl) at turn.answers.does)
    where
      none_marked : (ms : List Message) → ms ≡ unmarked_of ms (no_marks ms)
      none_marked [] = refl
      none_marked (m ∷ ms) = ap (λ (l : List Message). m ∷ l) (none_marked ms)

      by : (state : State) → IsStateWith ms state (mail server.drop) marks → is_open state ≡ true
          → DoesAction sound mail (action_of server.user server.pass state (Ok Quit)) server.drop answer last.state last.drop
          → there (mail last.drop).slots ≡ unmarked_of ms marks
      by (Authorization given) stands opened does = rw (does.2, stands.0, stands.1) (none_marked ms)
      by (Transaction rows) stands opened (state, (true, is, known)) =
          unmarked_left ms marks (mail server.drop) (mail last.drop) stands.1 stands.0 (rw stands.2 at (known s).1)
      by (Transaction rows) stands opened (state, (false, is, known)) =
          let never : said (codes "-ERR some messages not removed") ≡ codes "+OK" ++ rest = sym is ∙ positive in
          absurd (omega (arith, ap (λ (l : List ℕ). get_or l 0 0) never))
      by Closed stands opened does = absurd (false≢true opened)

  -- what was answered is honest, what is gone then was marked, only QUIT closes the server, and then what is marked goes
  pub answers_honestly : (old new : Machine D) (commands : List Command) (answers : List ℕ)
      → old.state ≡ Authorization None → AllByRecursion IsAsked commands → AnswersLines sound mail old (command_lines commands) answers new
      → sound new.drop → AllByRecursion IsMessage (there (mail old.drop).slots)
      → (marks : List Bool) × Replies (there (mail old.drop).slots) (no_marks (there (mail old.drop).slots)) commands answers marks
      × Gone (there (mail old.drop).slots) marks new.state (there (mail new.drop).slots) × IsClosedByQuit new.state commands
      × RemovesAtQuit sound mail (there (mail old.drop).slots) marks new
  answers_honestly old new commands answers state asked run s messages =
      let ms = there (mail old.drop).slots in
      let all = all_replied ms (no_marks ms) commands old new answers messages asked run s (rw state (refl, refl)) in
      (all.0, all.1, gone_at ms all.0 new.state (mail new.drop) all.2, all.3 (rw state refl), removes_at_quit ms all.0 new all.2)

  -- the greeting and honest replies
  abbrev pub honest_from : (ms : List Message) (marks : List Bool) (commands : List Command)
      (part replies got later sent : List ℕ) → AllByRecursion IsAsked commands → IsLine part
      → sent ≡ flat_map ended (command_lines commands) ++ part → Replies ms (no_marks ms) commands replies marks
      → greeting_line ++ replies ≡ got ++ later → Honest ms sent got marks
  honest_from ms marks commands part replies got later sent asked line is replied begins = record {
    status = Positive;
    hello = greeting_line;
    greets = granted greeting_line (codes " popd ready") refl refl;
    commands = commands;
    asked = (let all = all_asked commands asked in record {
      sendable = all.0;
      numbers = all.1;
      part = part;
      no_line =
          line;
      whole = is ∙ ap (λ (l : List ℕ). l ++ part) (flat_map-map ended line_of commands);
    });
    replies = replies;
    replied = replied;
    later = later;
    begins = begins;
  }

  pub is_honest : ConversesHonestly sound mail
  is_honest old new commands answers state asked run s messages =
      let all = answers_honestly old new commands answers state asked run s messages in (
        all.0,
        honest_from _ all.0 commands [] answers _ [] _ asked
            (λ front rest e. omega (arith, ap length e, length-append front (crlf ++ rest))) (sym (append-nil _)) all.1
            (sym (append-nil _)),
        all.2,
        all.4,
      )

-- ---- what a link to a new server gives is honest: the lines that were answered are the first of the commands that were sent

-- the lines are those of the first of these commands, and the others wait
pub record Cut (lines : List (List ℕ)) (commands : List Command) (waiting part : List ℕ) : Type 0 where
  pub first : List Command
  pub later : List Command
  pub all : commands ≡ first ++ later
  pub lines_are : lines ≡ command_lines first
  pub rest : waiting ≡ flat_map ended (command_lines later) ++ part

pub lines_cut : (lines : List (List ℕ)) (commands : List Command) (waiting part : List ℕ) → AllByRecursion IsLine lines
    → AllByRecursion IsAsked commands → IsLine part
    → flat_map ended lines ++ waiting ≡ flat_map ended (command_lines commands) ++ part → Cut lines commands waiting part
lines_cut [] commands waiting part each asked whole e = record { first = []; later = commands; all = refl; lines_are = refl; rest = e }
lines_cut (l ∷ ls) [] waiting part each asked whole e = absurd (whole l _ (simp append_assoc at (sym e)))
lines_cut (l ∷ ls) (c ∷ cs) waiting part each asked whole e =
    let same = one_line l (line_of c) _ _ each.0 (is_line c asked.0.numbers asked.0.sendable)
    (rw (append_assoc (ended l), append_assoc (ended (line_of c))) at e) in
    let more = lines_cut ls cs waiting part each.1 asked.1 whole same.1 in
    record {
      first = c ∷ more.first;
      later = more.later;
      all = ap (λ (l : List Command). c ∷ l) more.all;
      lines_are = ap₂ (λ (x : List ℕ) (xs : List (List ℕ)). x ∷ xs) same.0 more.lines_are;
      rest = more.rest;
    }

asked_front : (a b : List Command) → AllByRecursion IsAsked (a ++ b) → AllByRecursion IsAsked a
asked_front [] b all = tt
asked_front (c ∷ a) b all = (all.0, asked_front a b all.1)

-- a negative reply to each command
abbrev nos : List Command → List ℕ
nos [] = []
nos (c ∷ commands) = said (codes "-ERR") ++ nos commands

refused_all : (ms : List Message) (marks : List Bool) (commands : List Command) → Replies ms marks commands (nos commands) marks
refused_all ms marks [] = (refl, refl)
refused_all ms marks (c ∷ commands) = (
  said (codes "-ERR"),
  nos commands,
  marks,
  refl,
  reply_refuses ms marks c (said (codes "-ERR")) [] refl refl,
  refused_all ms marks commands,
)

replies_on : (ms : List Message) (marks mid last : List Bool) (a b : List Command) (x y : List ℕ)
    → Replies ms marks a x mid → Replies ms mid b y last → Replies ms marks (a ++ b) (x ++ y) last
replies_on ms marks mid last [] b x y first second = rw first.0 (rw first.1 at second)
replies_on ms marks mid last (c ∷ a) b x y (one, more, next, is, reply, rest) second = (
  one,
  more ++ y,
  next,
  ap (λ (l : List ℕ). l ++ y) is ∙ append_assoc one more y,
  reply,
  replies_on ms next mid last a b more y rest second,
)

shuffle : (hello more lost nos got left : List ℕ) → got ++ left ≡ hello ++ more
    → hello ++ ((more ++ lost) ++ nos) ≡ got ++ (left ++ (lost ++ nos))
shuffle hello more lost nos got left e = rw (append_assoc more, ← append_assoc hello, ← e, append_assoc got)

closed_later : (state : State) (first later : List Command) → IsClosedByQuit state first → IsClosedByQuit state (first ++ later)
closed_later state first later (inl still) = inl still
closed_later state first later (inr (front, behind, split)) = inr (front, behind ++ later, rw (split, append_assoc))

pub gives_honest : {D : Type 0} (sound : D → Type 0) (mail : D → DropMail) → GivesHonest sound mail
gives_honest sound mail old new commands part fresh serves asked line sent s served =
    let ms = there (mail old.machine.drop).slots in
    let gained : serves.gained ≡ flat_map ended (command_lines commands) ++ part = rw fresh.sent at (sym serves.sent ∙ sent) in
    let cut = lines_cut serves.lines commands new.waiting part serves.each asked line (rw fresh.waiting at (sym serves.heard) ∙ gained) in
    let asked_all = rw cut.all at asked in
    let same = serves.same.unanswered.messages s in
    let replied = answers_honestly sound mail old.machine serves.last cut.first (serves.more ++ serves.lost) fresh.state
    (asked_front cut.first cut.later asked_all) (rw cut.lines_are at serves.run) same.0 served in
    let told : new.link.got ++ new.left ≡ greeting_line ++ serves.more =
    rw (serves.answers, fresh.answers) at (serves.told (rw (fresh.got, fresh.left, fresh.answers))) in (
      replied.0,
      honest_from sound mail ms replied.0 (cut.first ++ cut.later) part ((serves.more ++ serves.lost) ++ nos cut.later)
          new.link.got (new.left ++ (serves.lost ++ nos cut.later)) new.link.sent asked_all line (rw cut.all at sent)
          (replies_on ms (no_marks ms) replied.0 replied.0 cut.first cut.later (serves.more ++ serves.lost)
          (nos cut.later) replied.1 (refused_all ms replied.0 cut.later))
          (shuffle greeting_line serves.more serves.lost (nos cut.later) new.link.got new.left told),
      rw (serves.same.state, same.1) replied.2,
      closed_later new.machine.state cut.first cut.later (rw serves.same.state replied.3),
    )
