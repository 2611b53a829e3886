-- What QUIT leaves of the marked messages.
use Rattle.std.specs.Prelude.{◌≡◌, ℕ, ◌+◌, ◌<◌, ◌≤◌, Bool, true, false, ◌&&◌, List, [], ◌∷◌, Option, Some, slice_get}
use Rattle.std.specs.Prelude.{if◌then◌else◌}
use Rattle.pop3_wire.specs.World.{Message}
use Rattle.pop3_server.specs.{declared.rows.MessageRow.MessageRow, Maildrop.DropMail, ServerMachine.Empties}

-- whether a place holds a message
abbrev pub holds_message : Option (Option Message) → Bool
holds_message (Some (Some message)) = true
holds_message other = false

-- how many of the rows from place i on are marked and still there
abbrev pub left_marked : ℕ → List MessageRow → DropMail → ℕ
left_marked i [] mail = 0
left_marked i (row ∷ rows) mail = (if row.marked && holds_message (slice_get mail.slots i) then 1 else 0)
    + left_marked (i + 1) rows mail

-- at most as many of the marked messages are left as refusals were counted
abbrev pub FewAreLeft : Type 0
FewAreLeft = (rows : List MessageRow) (old new : DropMail) (all : Bool) → Empties 0 rows old all new
    → left_marked 0 rows new + old.failures ≤ new.failures

-- if all were removed, nothing was refused
abbrev pub AllAreRemoved : Type 0
AllAreRemoved = (rows : List MessageRow) (old new : DropMail) → Empties 0 rows old true new
    → new.failures ≡ old.failures

-- if not all were removed, something was refused
abbrev pub SomeAreRefused : Type 0
SomeAreRefused = (rows : List MessageRow) (old new : DropMail) → Empties 0 rows old false new
    → old.failures < new.failures

-- a message that isn't marked stays where it is
abbrev pub OthersStay : Type 0
OthersStay = (rows : List MessageRow) (old new : DropMail) (all : Bool) → Empties 0 rows old all new
    → (k : ℕ) (row : MessageRow) → slice_get rows k ≡ Some row → row.marked ≡ false
    → slice_get new.slots k ≡ slice_get old.slots k
