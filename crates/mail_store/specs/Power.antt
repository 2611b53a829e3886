-- What a loss of power may leave of a file after calls, by what it could leave before.
use Rattle.std.specs.Prelude.{◌≡◌, ◌⊎◌, ℕ, List, ◌++◌, length, take, Option, Some}
use Rattle.mail_store.specs.Settling.{MayBeLeft}

-- ---- a file: what a loss of power may leave of it, None for no file

-- a loss of power leaves nothing that it couldn't have left before
abbrev pub LeavesNoMore : (Option (List ℕ) → Type 0) → (Option (List ℕ) → Type 0) → Type 0
LeavesNoMore may_leave may_leave' = (left : Option (List ℕ)) → may_leave' left → may_leave left

-- what is left of a file is as it was, or has more bytes behind
abbrev pub IsLonger : Option (List ℕ) → Option (List ℕ) → Type 0
IsLonger was left = (left ≡ was)
    ⊎ ((bytes : List ℕ) × (behind : List ℕ) × (was ≡ Some bytes) × (left ≡ Some (bytes ++ behind)))

-- whatever a loss of power leaves is what it could have left before, or longer
abbrev pub LeavesLonger : (Option (List ℕ) → Type 0) → (Option (List ℕ) → Type 0) → Type 0
LeavesLonger may_leave may_leave' =
    (left : Option (List ℕ)) → may_leave' left → (was : Option (List ℕ)) × may_leave was × IsLonger was left

-- `append`: if all of the file was durable, a loss of power leaves it, and what it may leave of the new bytes
abbrev pub LeavesPart : Option (List ℕ) → List ℕ → (Option (List ℕ) → Type 0) → Type 0
LeavesPart content bytes may_leave = (was : List ℕ) → content ≡ Some was → (left : Option (List ℕ)) → may_leave left
    → (behind : List ℕ) × (left ≡ Some (was ++ behind)) × MayBeLeft (length was) bytes behind

-- `replace`: what could have been left before, or the new bytes
abbrev pub LeavesEither : (Option (List ℕ) → Type 0) → List ℕ → (Option (List ℕ) → Type 0) → Type 0
LeavesEither may_leave bytes may_leave' = (left : Option (List ℕ)) → may_leave' left
    → may_leave left ⊎ (left ≡ Some bytes)

-- `cut_to`: what could have been left before, or the first `len` bytes, perhaps with more behind
abbrev pub LeavesFront : Option (List ℕ) → ℕ → (Option (List ℕ) → Type 0) → (Option (List ℕ) → Type 0) → Type 0
LeavesFront content len may_leave may_leave' = (was : List ℕ) → content ≡ Some was → (left : Option (List ℕ))
    → may_leave' left → may_leave left ⊎ ((behind : List ℕ) × (left ≡ Some (take len was ++ behind)))

-- with nothing behind
abbrev pub LeavesCut : Option (List ℕ) → ℕ → (Option (List ℕ) → Type 0) → (Option (List ℕ) → Type 0) → Type 0
LeavesCut content len may_leave may_leave' = (left : Option (List ℕ)) → may_leave' left
    → may_leave left ⊎ ((was : List ℕ) × (content ≡ Some was) × (left ≡ Some (take len was)))

-- the file, if there is one, is durable, and a loss of power leaves exactly its bytes
abbrev pub IsLeftWhole : Option (List ℕ) → Type 0 → (Option (List ℕ) → Type 0) → Type 0
IsLeftWhole content is_durable may_leave = (bytes : List ℕ) → content ≡ Some bytes
    → is_durable × ((left : Option (List ℕ)) → may_leave left → left ≡ Some bytes)

-- whatever a loss of power leaves begins with these bytes
abbrev pub LeavesAll : (Option (List ℕ) → Type 0) → List ℕ → Type 0
LeavesAll may_leave bytes = (left : Option (List ℕ)) → may_leave left → (rest : List ℕ) × (left ≡ Some (bytes ++ rest))

-- what a loss of power would have left before, it would still leave
abbrev pub KeepsBytes : (Option (List ℕ) → Type 0) → (Option (List ℕ) → Type 0) → Type 0
KeepsBytes may_leave may_leave' = (bytes : List ℕ) → LeavesAll may_leave bytes → LeavesAll may_leave' bytes

-- all bytes that the file had are still durable, if they were
abbrev pub KeepsWhole : Option (List ℕ) → (Option (List ℕ) → Type 0) → (Option (List ℕ) → Type 0) → Type 0
KeepsWhole content may_leave may_leave' =
    (bytes : List ℕ) → content ≡ Some bytes → LeavesAll may_leave bytes → LeavesAll may_leave' bytes
