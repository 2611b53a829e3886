-- Removals, and what is left.
use Rattle.std.proofs.{
  Common.{◌≡◌, ◌⊎◌, ℕ, zero, suc, ◌+◌, ◌<◌, ◌≤◌, Bool, true, false, List, [], ◌∷◌, ◌++◌, map, Option, Some, None, slice_get, slice_set, ap},
  Common.{refl, sym, ◌∙◌, inl, inr, arith, if◌then◌else◌, length, append_assoc, length-append},
  lemmas.{Bool.false≢true, List.set_at},
}
use Rattle.pop3_wire.specs.World.{Message}
use Rattle.pop3_server.{
  specs.{declared.rows.MessageRow.MessageRow, HonestServer.{AreLeftByQuit, unmarked_of}, Maildrop.{DropMail, HasPlace, there}},
  specs.{ServerMachine.{Tries, Empties, none, stays, goes}, Removal.{holds_message, left_marked}},
  proofs.RowLemmas.rows_with,
}

slot_removed : (slots : List (Option Message)) (i : ℕ) → holds_message (slice_get (slice_set slots i None) i) ≡ false
slot_removed [] i = refl
slot_removed (slot ∷ slots) zero = refl
slot_removed (slot ∷ slots) (suc i) = slot_removed slots i

slot_other : (slots : List (Option Message)) (i k : ℕ) → (k ≡ i → ⊥) → slice_get (slice_set slots i None) k ≡ slice_get slots k
slot_other [] i k other = refl
slot_other (slot ∷ slots) zero zero other = absurd (other refl)
slot_other (slot ∷ slots) zero (suc k) other = refl
slot_other (slot ∷ slots) (suc i) zero other = refl
slot_other (slot ∷ slots) (suc i) (suc k) other = slot_other slots i k (λ e. other (ap suc e))

-- one more refusal is counted if it wasn't done, and only this place may have changed
tried : (old mid : DropMail) (i : ℕ) (done : Bool) → Tries old i done mid
    → (mid.failures ≡ (if done then 0 else 1) + old.failures) × ((mid.slots ≡ old.slots) ⊎ (mid.slots ≡ slice_set old.slots i None))
tried old mid i true tries = rw tries (omega arith, inr refl)
tried old mid i false (inl kept) = rw kept (omega arith, inl refl)
tried old mid i false (inr gone) = rw gone (omega arith, inr refl)

tries_other : (old new : DropMail) (i k : ℕ) (done : Bool) → Tries old i done new → (k ≡ i → ⊥)
    → slice_get new.slots k ≡ slice_get old.slots k
tries_other old new i k done tries other =
    elim (tried old new i done tries).1 [ inl kept ↦ rw kept | inr gone ↦ rw gone (slot_other old.slots i k other) ]

-- earlier places stay as they are
earlier : {i : ℕ} {rows : List MessageRow} {old : DropMail} {all : Bool} {new : DropMail} → Empties i rows old all new
    → (k : ℕ) → k < i → slice_get new.slots k ≡ slice_get old.slots k
earlier (none i old) k less = refl
earlier (stays i row rows old all new unmarked rest) k less = earlier rest k (omega arith)
earlier (goes i row rows old mid done all new marked tries rest) k less =
    earlier rest k (omega arith) ∙ tries_other old mid i k done tries (λ e. omega arith)

pub few_left : {i : ℕ} {rows : List MessageRow} {old : DropMail} {all : Bool} {new : DropMail}
    → Empties i rows old all new → left_marked i rows new + old.failures ≤ new.failures
few_left (none i old) = omega arith
few_left (stays i row rows old all new unmarked rest) = rw unmarked (omega (arith, few_left rest))
few_left (goes i row rows old mid true all new marked tries rest) =
    let gone : holds_message (slice_get new.slots i) ≡ false = ap holds_message (earlier rest i (omega arith)
    ∙ ap (λ (m : DropMail). slice_get m.slots i) tries) ∙ slot_removed old.slots i in
    rw (marked, gone) (omega (arith, few_left rest, (tried old mid i true tries).0))
few_left (goes i row rows old mid false all new marked tries rest) =
    rw marked (grind (arith, few_left rest, (tried old mid i false tries).0))

pub all_removed : {i : ℕ} {rows : List MessageRow} {old : DropMail} {all : Bool} {new : DropMail}
    → Empties i rows old all new → all ≡ true → new.failures ≡ old.failures
all_removed (none i old) whole = refl
all_removed (stays i row rows old all new unmarked rest) whole = all_removed rest whole
all_removed (goes i row rows old mid true all new marked tries rest) whole = all_removed rest whole
    ∙ ap (λ (m : DropMail). m.failures) tries
all_removed (goes i row rows old mid false all new marked tries rest) whole = cc

pub some_refused : {i : ℕ} {rows : List MessageRow} {old : DropMail} {all : Bool} {new : DropMail}
    → Empties i rows old all new → all ≡ false → old.failures < new.failures
some_refused (none i old) left = cc
some_refused (stays i row rows old all new unmarked rest) left = some_refused rest left
some_refused (goes i row rows old mid true all new marked tries rest) left =
    omega (arith, some_refused rest left, ap (λ (m : DropMail). m.failures) tries)
some_refused (goes i row rows old mid false all new marked tries rest) left = omega (arith, (tried old mid i false tries).0, few_left rest)

pub others_stay : {i : ℕ} {rows : List MessageRow} {old : DropMail} {all : Bool} {new : DropMail}
    → Empties i rows old all new → (k j : ℕ) (row : MessageRow) → slice_get rows k ≡ Some row → row.marked ≡ false
    → j ≡ i + k → slice_get new.slots j ≡ slice_get old.slots j
others_stay (none i old) k j row h unmarked at = refl
others_stay (stays i first rows old all new fresh rest) zero j row h unmarked at = earlier rest j (omega (arith, at))
others_stay (stays i first rows old all new fresh rest) (suc k) j row h unmarked at =
    others_stay rest k j row h unmarked (omega (arith, at))
others_stay (goes i first rows old mid done all new marked tries rest) zero j row h unmarked at =
    let same : first ≡ row = cc in absurd (false≢true (sym unmarked ∙ ap (λ (r : MessageRow). r.marked) (sym same) ∙ marked))
others_stay (goes i first rows old mid done all new marked tries rest) (suc k) j row h unmarked at =
    others_stay rest k j row h unmarked (omega (arith, at)) ∙ tries_other old mid i j done tries (λ same. omega (arith, at, same))

-- a removal leaves the other places
pub later_place : (old new : DropMail) (i k : ℕ) (done : Bool) → Tries old i done new → i < k → HasPlace old k → HasPlace new k
later_place old new i k done tries less h = (h.0, tries_other old new i k done tries (λ same. omega arith) ∙ h.1)

-- ---- what QUIT leaves of the messages

pub none_gone : (ms : List Message) (marks : List Bool) → length marks ≡ length ms → AreLeftByQuit ms marks ms
none_gone [] marks e = refl
none_gone (m ∷ ms) [] e = absurd (omega arith)
none_gone (m ∷ ms) (b ∷ bs) e = inl (ms, refl, none_gone ms bs (omega arith))

abbrev LeftBehind : List (Option Message) → List Message → List Bool → DropMail → Type 0
LeftBehind pre ms marks new = (after : List (Option Message)) × (new.slots ≡ pre ++ after) × AreLeftByQuit ms marks (there after)

message_stayed : (pre : List (Option Message)) (m : Message) (ms : List Message) (b : Bool) (bs : List Bool) (new : DropMail)
    → LeftBehind (pre ++ Some m ∷ []) ms bs new → LeftBehind pre (m ∷ ms) (b ∷ bs) new
message_stayed pre m ms b bs new left = (Some m ∷ left.0, left.1 ∙ append_assoc pre (Some m ∷ []) left.0, inl (there left.0, refl, left.2))

emptied : (ms : List Message) (marks : List Bool) (pre : List (Option Message)) {i : ℕ} {old : DropMail} {all : Bool}
    {new : DropMail} → Empties i (rows_with ms marks) old all new
    → i ≡ length pre → length marks ≡ length ms → old.slots ≡ pre ++ map Some ms → LeftBehind pre ms marks new
emptied [] marks pre (none i old) at same slots = ([], slots, refl)
emptied (m ∷ ms) [] pre empties at same slots = absurd (omega arith)
emptied (m ∷ ms) (b ∷ bs) pre (stays i row rows old all new unmarked rest) at same slots =
    message_stayed pre m ms b bs new (emptied ms bs (pre ++ Some m ∷ []) rest
    (omega (arith, at, length-append pre (Some m ∷ []))) (omega arith) (rw (slots, append_assoc)))
emptied (m ∷ ms) (b ∷ bs) pre (goes i row rows old mid done all new marked tries rest) at same slots = elim (tried old mid i done tries).1 [
  | inl kept ↦ message_stayed pre m ms b bs new
      (emptied ms bs (pre ++ Some m ∷ []) rest (omega (arith, at, length-append pre (Some m ∷ []))) (omega arith)
      (rw (kept, slots, append_assoc)))
  | inr gone ↦
      let left = emptied ms bs (pre ++ None ∷ []) rest (omega (arith, at, length-append pre (None ∷ []))) (omega arith)
      (rw (gone, slots, set_at pre (Some m) (map Some ms) None i (sym at), append_assoc)) in
      (None ∷ left.0, left.1 ∙ append_assoc pre (None ∷ []) left.0, inr (marked, left.2))
]

pub left_by_quit : (ms : List Message) (marks : List Bool) (old new : DropMail) (all : Bool) → length marks ≡ length ms
    → old.slots ≡ map Some ms → Empties 0 (rows_with ms marks) old all new → AreLeftByQuit ms marks (there new.slots)
left_by_quit ms marks old new all same slots empties = let left = emptied ms marks [] empties refl same slots in rw left.1 left.2

-- if all were removed, those that aren't marked are left
all_gone : (ms : List Message) (marks : List Bool) (pre : List (Option Message)) {i : ℕ} {old : DropMail} {all : Bool}
    {new : DropMail} → Empties i (rows_with ms marks) old all new → all ≡ true
    → i ≡ length pre → length marks ≡ length ms → old.slots ≡ pre ++ map Some ms
    → (after : List (Option Message)) × (new.slots ≡ pre ++ after) × (there after ≡ unmarked_of ms marks)
all_gone [] marks pre (none i old) whole at same slots = ([], slots, refl)
all_gone (m ∷ ms) [] pre empties whole at same slots = absurd (omega arith)
all_gone (m ∷ ms) (b ∷ bs) pre (stays i row rows old all new unmarked rest) whole at same slots =
    let left = all_gone ms bs (pre ++ Some m ∷ []) rest whole
    (omega (arith, at, length-append pre (Some m ∷ []))) (omega arith) (rw (slots, append_assoc)) in
    (Some m ∷ left.0, left.1 ∙ append_assoc pre (Some m ∷ []) left.0, rw unmarked (ap (λ (l : List Message). m ∷ l) left.2))
all_gone (m ∷ ms) (b ∷ bs) pre (goes i row rows old mid true all new marked tries rest) whole at same slots =
    let gone : mid.slots ≡ pre ++ None ∷ map Some ms =
    ap (λ (mail : DropMail). mail.slots) tries ∙ rw slots (set_at pre (Some m) (map Some ms) None i (sym at)) in
    let left = all_gone ms bs (pre ++ None ∷ []) rest whole
    (omega (arith, at, length-append pre (None ∷ []))) (omega arith) (rw (gone, append_assoc)) in
    (None ∷ left.0, left.1 ∙ append_assoc pre (None ∷ []) left.0, rw marked left.2)
all_gone (m ∷ ms) (b ∷ bs) pre (goes i row rows old mid false all new marked tries rest) whole at same slots = absurd (false≢true whole)

pub unmarked_left : (ms : List Message) (marks : List Bool) (old new : DropMail) → length marks ≡ length ms
    → old.slots ≡ map Some ms → Empties 0 (rows_with ms marks) old true new → there new.slots ≡ unmarked_of ms marks
unmarked_left ms marks old new same slots empties =
    let left = all_gone ms marks [] empties refl refl same slots in rw left.1 left.2

pub ruleset removal_laws = (few_left, all_removed, some_refused, others_stay)
