-- A maildrop: what is known of it, and what each call does to it.
use Rattle.std.specs.Prelude.{◌≡◌, ◌⊎◌, ◌≤◌, ℕ, ◌+◌, length, take, drop, Bool, true, false, List, [], ◌∷◌, map, Some}
use Rattle.std.specs.Prelude.{Option, None, Result, Ok, Err, Vec, slice_get, slice_set}
use Rattle.mail_terms.specs.FailureCount.{counted_up}
use Rattle.pop3_wire.specs.World.{Message}
use Rattle.pop3_server.specs.declared.maildrop.DropFault.{DropFault, TheVariants.{Refused, NoMemory}}

-- how many messages a listing may have, and how many octets each may have
abbrev pub max_count : ℕ
max_count = 100000

abbrev pub max_size : ℕ
max_size = 134217728

-- a message's entry in a listing
pub record ListedMessage : Type 0 where
  pub uid : List ℕ
  pub size : ℕ

-- for each place of the last listing its message, or none if that was removed; how many calls were refused;
-- and how often a removal was asked for
pub record DropMail : Type 0 where
  pub slots : List (Option Message)
  pub failures : ℕ
  pub removals : ℕ

-- the messages that are there
abbrev pub there : List (Option Message) → List Message
there [] = []
there (None ∷ slots) = there slots
there (Some message ∷ slots) = message ∷ there slots

-- their ids
abbrev pub ids : List (Option Message) → List (List ℕ)
ids slots = map (λ (message : Message). message.uid) (there slots)

-- the entry of this message
abbrev pub listed_message : Message → ListedMessage
listed_message message = record { uid = message.uid; size = message.size }

-- there is a message at this place
abbrev pub HasPlace : DropMail → ℕ → Type 0
HasPlace mail i = (message : Message) × (slice_get mail.slots i ≡ Some (Some message))

-- a call was refused, and nothing else changed
abbrev pub refusing : DropMail → DropMail
refusing old = record old { failures = old.failures + 1 }

-- a removal was asked for, and nothing else changed
abbrev pub asked : DropMail → DropMail
asked old = record old { removals = counted_up old.removals }

-- a removal was asked for, and the message at the place is gone
abbrev pub removed : DropMail → ℕ → DropMail
removed old i = record old { slots = slice_set old.slots i None; removals = counted_up old.removals }

-- a call that only reads gave nothing, and no message changed
abbrev pub FailsReading : DropMail → DropFault → DropMail → Type 0
FailsReading old Refused new = new ≡ refusing old
FailsReading old NoMemory new = new ≡ old

-- the messages that are there were listed, and these are their places from now on
abbrev pub ListsMessages : {Z : Type 0} → DropMail → Result (Vec ListedMessage Z) DropFault → DropMail → Type 0
ListsMessages old (Ok entries) new =
    (new ≡ record old { slots = map Some (there old.slots) }) × (entries.items ≡ map listed_message (there old.slots))
ListsMessages old (Err fault) new = FailsReading old fault new

-- the text of the message at a place was given
abbrev pub Gives : {Z : Type 0} → DropMail → ℕ → Result (Vec ℕ Z) DropFault → DropMail → Type 0
Gives old i (Ok text) new =
    (new ≡ old) × ((message : Message) × (slice_get old.slots i ≡ Some (Some message)) × (text.items ≡ message.text))
Gives old i (Err fault) new = FailsReading old fault new

-- a piece begins with this number of octets of the text of the message at a place, from `start` on; with none
-- only if none are left
abbrev pub GivesPart : DropMail → ℕ → ℕ → Result ℕ DropFault → List ℕ → DropMail → Type 0
GivesPart old i start (Ok n) piece new =
    (new ≡ old) × ((message : Message) × (slice_get old.slots i ≡ Some (Some message))
    × (take n piece ≡ take n (drop start message.text)) × (n ≡ 0 → length message.text ≤ start))
GivesPart old i start (Err fault) piece new = FailsReading old fault new

-- the message at a place was removed; after a refusal it may be there or not
abbrev pub Removes : DropMail → ℕ → Result (Unit {0}) DropFault → DropMail → Type 0
Removes old i (Ok done) new = new ≡ removed old i
Removes old i (Err Refused) new = (new ≡ refusing (asked old)) ⊎ (new ≡ refusing (removed old i))
Removes old i (Err NoMemory) new = ⊥

-- running out of memory is a fault, but isn't counted as a refusal
abbrev pub is_drop_refusal : DropFault → Bool
is_drop_refusal Refused = true
is_drop_refusal NoMemory = false
