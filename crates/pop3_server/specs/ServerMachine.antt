-- The server as a machine: a state and a line lead to an answer and the next state (RFC 1939, sections 4 to 7).
use Rattle.std.specs.Prelude.{◌≡◌, ◌⊎◌, ◌≤◌, ◌==◌, ℕ, zero, suc, ◌+◌, ◌-◌, Bool, true, false, not, ◌&&◌, List, [], Ok}
use Rattle.std.specs.Prelude.{◌∷◌, ◌++◌, map, length, Option, Some, None, Result, Err, slice_get, codes, bytes_eq}
use Rattle.std.specs.Prelude.{if◌then◌else◌, All, count_by, sum_by, decimal}
use Rattle.pop3_wire.specs.{
  declared.command.Command.Command,
  declared.command.Command.TheVariants.{User, Pass, Stat, UidlAll, UidlOne, ListAll, ListOne, Retr, Dele, Rset, Noop},
  declared.command.Command.TheVariants.{Top, Quit},
  declared.fault.WireFault.WireFault,
  Body.dot,
  Line.{crlf, ended},
  Rows.{scan_row, uid_row},
  Stuffed.stuffed_lines,
  World.Message,
}
use Rattle.mail_terms.specs.{Text.lines_of_text, FailureCount.counted_up}
use Rattle.pop3_server.specs.{
  declared.{rows.MessageRow.MessageRow, state.State.{State, TheVariants.{Authorization, Transaction, Closed}}},
  Maildrop.{ListedMessage, DropMail, there, listed_message, HasPlace, refusing, asked, removed, max_count, max_size},
}

-- ---- the rows: the messages that PASS found, and their marks

abbrev pub is_unmarked : MessageRow → Bool
is_unmarked row = not row.marked

-- how many messages aren't marked, and their octets
abbrev pub left_count : List MessageRow → ℕ
left_count rows = count_by is_unmarked rows

abbrev pub left_size : MessageRow → ℕ
left_size row = if row.marked then 0 else row.entry.size

abbrev pub left_total : List MessageRow → ℕ
left_total rows = sum_by left_size rows

abbrev pub unless_marked : Option MessageRow → Option MessageRow
unless_marked None = None
unless_marked (Some row) = if row.marked then None else Some row

-- the row of a message number, counted from 1, if there is one that isn't marked
abbrev pub row_numbered : List MessageRow → ℕ → Option MessageRow
row_numbered rows k = if k == 0 then None else unless_marked (slice_get rows (k - 1))

abbrev pub with_mark : MessageRow → MessageRow
with_mark row = record row { marked = true }

abbrev pub unmarked : MessageRow → MessageRow
unmarked row = record row { marked = false }

-- the row at a place is marked
abbrev pub mark_at : List MessageRow → ℕ → List MessageRow
mark_at [] i = []
mark_at (row ∷ rows) zero = with_mark row ∷ rows
mark_at (row ∷ rows) (suc i) = row ∷ mark_at rows i

abbrev pub row_of_entry : ListedMessage → MessageRow
row_of_entry entry = record { entry = entry; marked = false }

abbrev pub message_row : Message → MessageRow
message_row message = row_of_entry (listed_message message)

abbrev pub IsSmall : MessageRow → Type 0
IsSmall row = row.entry.size ≤ max_size

-- no more rows than a listing may have, and no greater ones
pub record KeepLimits (rows : List MessageRow) : Type 0 where
  pub few : length rows ≤ max_count
  pub small : All IsSmall rows

-- ---- the answers

-- a line with its CR LF
abbrev pub said : List ℕ → List ℕ
said text = text ++ crlf

abbrev pub greeting_line : List ℕ
greeting_line = said (codes "+OK popd ready")

-- a message's line in a listing, with its number
abbrev pub scan_line : ℕ → MessageRow → List ℕ
scan_line k row = scan_row k row.entry.size

abbrev pub uid_line : ℕ → MessageRow → List ℕ
uid_line k row = uid_row k row.entry.uid

-- the lines of the rows that aren't marked, numbered from k on
abbrev pub lines_from : (ℕ → MessageRow → List ℕ) → ℕ → List MessageRow → List ℕ
lines_from line k [] = []
lines_from line k (row ∷ rows) = (if row.marked then [] else said (line k row)) ++ lines_from line (k + 1) rows

abbrev pub listed : (ℕ → MessageRow → List ℕ) → List MessageRow → List ℕ
listed line rows = codes "+OK" ++ crlf ++ lines_from line 1 rows ++ ended dot

-- the answer about one message
abbrev pub of_row : (MessageRow → List ℕ) → Option MessageRow → List ℕ
of_row line None = said (codes "-ERR no such message")
of_row line (Some row) = line row

-- the lines of a text up to and including its first empty one, and n more
abbrev pub top_from : Bool → ℕ → List (List ℕ) → List (List ℕ)
top_from in_head n [] = []
top_from true n (line ∷ lines) = line ∷ top_from (not (length line == 0)) n lines
top_from false zero (line ∷ lines) = []
top_from false (suc n) (line ∷ lines) = line ∷ top_from false n lines

-- the body of a text, or of its top
abbrev pub text_body : Option ℕ → List ℕ → List ℕ
text_body None text = stuffed_lines (lines_of_text text)
text_body (Some n) text = stuffed_lines (top_from true n (lines_of_text text))

-- ---- the table: what a state and a command ask for

pub data Action : Type 0 where
  -- this answer, and this next state; the maildrop isn't called
  Say : List ℕ → State → Action
  -- the maildrop is listed
  Open : Action
  -- the text at a place is given after a first line, all of it or its top
  Give : List MessageRow → ℕ → List ℕ → Option ℕ → Action
  -- the marked messages are removed
  Leave : List MessageRow → Action

abbrev pub in_authorization : List ℕ → List ℕ → Option (List ℕ) → Command → Action
in_authorization user pass given (User name) = Say (said (codes "+OK send PASS")) (Authorization (Some name))
in_authorization user pass None (Pass word) = Say (said (codes "-ERR USER first")) (Authorization None)
in_authorization user pass (Some name) (Pass word) =
    if bytes_eq name user && bytes_eq word pass then Open else Say (said (codes "-ERR refused")) (Authorization None)
in_authorization user pass given Quit = Say (said (codes "+OK bye")) Closed
in_authorization user pass given command = Say (said (codes "-ERR not now")) (Authorization given)

abbrev pub give : List MessageRow → ℕ → Option MessageRow → (MessageRow → List ℕ) → Option ℕ → Action
give rows k None line top = Say (said (codes "-ERR no such message")) (Transaction rows)
give rows k (Some row) line top = Give rows (k - 1) (said (line row)) top

abbrev pub octets_line : MessageRow → List ℕ
octets_line row = codes "+OK " ++ decimal row.entry.size ++ codes " octets"

abbrev pub dele_action : List MessageRow → ℕ → Option MessageRow → Action
dele_action rows k None = Say (said (codes "-ERR no such message")) (Transaction rows)
dele_action rows k (Some row) = Say (said (codes "+OK marked")) (Transaction (mark_at rows (k - 1)))

abbrev pub in_transaction : List MessageRow → Command → Action
in_transaction rows Stat =
    Say (said (codes "+OK " ++ decimal (left_count rows) ++ codes " " ++ decimal (left_total rows))) (Transaction rows)
in_transaction rows ListAll = Say (listed scan_line rows) (Transaction rows)
in_transaction rows UidlAll = Say (listed uid_line rows) (Transaction rows)
in_transaction rows (ListOne k) =
    Say (of_row (λ row. said (codes "+OK " ++ scan_line k row)) (row_numbered rows k)) (Transaction rows)
in_transaction rows (UidlOne k) =
    Say (of_row (λ row. said (codes "+OK " ++ uid_line k row)) (row_numbered rows k)) (Transaction rows)
in_transaction rows (Retr k) = give rows k (row_numbered rows k) octets_line None
in_transaction rows (Top k n) = give rows k (row_numbered rows k) (λ row. codes "+OK") (Some n)
in_transaction rows (Dele k) = dele_action rows k (row_numbered rows k)
in_transaction rows Rset = Say (said (codes "+OK")) (Transaction (map unmarked rows))
in_transaction rows Noop = Say (said (codes "+OK")) (Transaction rows)
in_transaction rows Quit = Leave rows
in_transaction rows command = Say (said (codes "-ERR not now")) (Transaction rows)

-- whether the rows alone give the answer to a command
abbrev pub is_about_rows : Command → Bool
is_about_rows (Retr k) = false
is_about_rows (Top k n) = false
is_about_rows Quit = false
is_about_rows command = true

-- what a line asks for, given its command or its fault; a closed server isn't asked
abbrev pub action_of : List ℕ → List ℕ → State → Result Command WireFault → Action
action_of user pass state (Err fault) = Say (said (codes "-ERR bad command")) state
action_of user pass (Authorization given) (Ok command) = in_authorization user pass given command
action_of user pass (Transaction rows) (Ok command) = in_transaction rows command
action_of user pass Closed (Ok command) = Say [] Closed

-- ---- what is done

-- what is known of a maildrop's messages if its premise holds
abbrev pub Known : {D : Type 0} → (D → Type 0) → (D → DropMail) → D → D → (DropMail → DropMail → Type 0) → Type 0
Known sound mail old new Follows = sound new → sound old × Follows (mail old) (mail new)

-- the removal of the message at a place was tried, and succeeded or was refused
abbrev pub Tries : DropMail → ℕ → Bool → DropMail → Type 0
Tries old i true new = new ≡ removed old i
Tries old i false new = (new ≡ refusing (asked old)) ⊎ (new ≡ refusing (removed old i))

-- the marked messages from place i on were removed in order, as far as each could be; the flag says whether
-- all were
pub data Empties : ℕ → List MessageRow → DropMail → Bool → DropMail → Type 0 where
  none : (i : ℕ) (old : DropMail) → Empties i [] old true old
  stays : (i : ℕ) (row : MessageRow) (rows : List MessageRow) (old : DropMail) (all : Bool) (new : DropMail)
      → row.marked ≡ false → Empties (i + 1) rows old all new → Empties i (row ∷ rows) old all new
  goes : (i : ℕ) (row : MessageRow) (rows : List MessageRow) (old mid : DropMail) (done all : Bool) (new : DropMail)
      → row.marked ≡ true → Tries old i done mid → Empties (i + 1) rows mid all new
      → Empties i (row ∷ rows) old (done && all) new

-- a count of removals, with one more for each marked row
abbrev pub with_marked : List MessageRow → ℕ → ℕ
with_marked [] count = count
with_marked (row ∷ rows) count = with_marked rows (if row.marked then counted_up count else count)

-- removals are asked for only at QUIT, one for each marked message; this holds of every maildrop
abbrev pub AsksRemovals : DropMail → Action → DropMail → Type 0
AsksRemovals old (Leave rows) new = new.removals ≡ with_marked rows old.removals
AsksRemovals old other new = new.removals ≡ old.removals

-- the maildrop refused its listing; or there are as many rows as messages, none marked, and whatever the maildrop
-- does, they keep to the limits
abbrev pub OpensMaildrop : {D : Type 0} → (D → Type 0) → (D → DropMail) → D → List ℕ → State → D → Type 0
OpensMaildrop sound mail old answer next new =
    ((answer ≡ said (codes "-ERR maildrop unavailable")) × (next ≡ Authorization None)
    × Known sound mail old new (λ before after. after ≡ refusing before))
    ⊎ ((rows : List MessageRow) × KeepLimits rows
    × (answer ≡ said (codes "+OK " ++ decimal (length rows) ++ codes " messages"))
    × (next ≡ Transaction rows)
    × Known sound mail old new (λ before after. (after ≡ record before { slots = map Some (there before.slots) })
    × (rows ≡ map message_row (there before.slots))))

-- the text was refused, or is in the answer
abbrev pub GivesText : {D : Type 0} → (D → Type 0) → (D → DropMail) → ℕ → List ℕ → Option ℕ → D → List ℕ → D → Type 0
GivesText sound mail i line top old answer new =
    ((answer ≡ said (codes "-ERR message unavailable"))
    × Known sound mail old new (λ before after. after ≡ refusing before))
    ⊎ ((text : List ℕ) × (answer ≡ line ++ text_body top text)
    × Known sound mail old new (λ before after. (after ≡ before)
    × ((message : Message) × (slice_get before.slots i ≡ Some (Some message))
    × (text_body top text ≡ text_body top message.text))))

-- the marked messages were removed, all of them or not
abbrev pub RemovesMarked : {D : Type 0} → (D → Type 0) → (D → DropMail) → List MessageRow → D → List ℕ → D → Type 0
RemovesMarked sound mail rows old answer new =
    (all : Bool) × (answer ≡ said (if all then codes "+OK bye" else codes "-ERR some messages not removed"))
    × Known sound mail old new (λ before after. Empties 0 rows before all after)

abbrev pub DoesAction : {D : Type 0} → (D → Type 0) → (D → DropMail) → Action → D → List ℕ → State → D → Type 0
DoesAction sound mail (Say bytes state) old answer next new = (answer ≡ bytes) × (next ≡ state) × (new ≡ old)
DoesAction sound mail Open old answer next new = OpensMaildrop sound mail old answer next new
DoesAction sound mail (Give rows i line top) old answer next new =
    (next ≡ Transaction rows) × GivesText sound mail i line top old answer new
DoesAction sound mail (Leave rows) old answer next new = (next ≡ Closed) × RemovesMarked sound mail rows old answer new

-- an action was done: its answer, the next state, and the maildrop before and after
pub record Answers {D : Type 0} (sound : D → Type 0) (mail : D → DropMail) (asked_for : Action) (old : D)
    (answer : List ℕ) (next : State) (new : D) : Type 0 where
  pub removals : AsksRemovals (mail old) asked_for (mail new)
  pub does : DoesAction sound mail asked_for old answer next new

-- memory ran out for the answer: no message and no count changed, but the places may have changed
pub record Unanswered {D : Type 0} (sound : D → Type 0) (mail : D → DropMail) (old new : D) : Type 0 where
  pub failures : (mail new).failures ≡ (mail old).failures
  pub removals : (mail new).removals ≡ (mail old).removals
  pub messages : Known sound mail old new (λ before after. there after.slots ≡ there before.slots)

-- ---- a whole server

abbrev pub is_open : State → Bool
is_open Closed = false
is_open state = true

-- each row has its message, while there are rows
abbrev pub Tied : Type 0 → DropMail → State → Type 0
Tied sound mail (Transaction rows) = sound → (i : ℕ) (row : MessageRow) → slice_get rows i ≡ Some row → HasPlace mail i
Tied sound mail state = Unit {0}

-- each place that has a row now had one before
abbrev pub SamePlaces : List MessageRow → List MessageRow → Type 0
SamePlaces old new = (i : ℕ) (row : MessageRow) → slice_get new i ≡ Some row
    → (before : MessageRow) × (slice_get old i ≡ Some before)

-- the state after an answer; none means that it stays as it is
abbrev pub next_of : State → Option State → State
next_of state None = state
next_of state (Some next) = next

-- whom it lets in, its state, and its maildrop
pub record Machine (D : Type 0) : Type 0 where
  pub user : List ℕ
  pub pass : List ℕ
  pub state : State
  pub drop : D
