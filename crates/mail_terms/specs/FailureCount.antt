-- How many calls a device refused.
use Rattle.std.specs.Prelude.{◌≡◌, ℕ, ◌+◌, ◌-◌, ◌^◌, ◌==◌, Bool, true, false, if◌then◌else◌, Result, Ok, Err}

-- the greatest count: a device that has reached it refuses every call and counts no further
abbrev pub greatest_count : ℕ
greatest_count = 2 ^ 64 - 1

-- one more, up to the greatest count
abbrev pub counted_up : ℕ → ℕ
counted_up count = if count == greatest_count then count else count + 1

-- the count rises by one, up to the greatest count, if the call was refused, and stays otherwise
abbrev pub Tallies : Bool → ℕ → ℕ → Type 0
Tallies true old new = new ≡ counted_up old
Tallies false old new = new ≡ old

-- whether a call was refused; a test says which of its faults are refusals
abbrev pub refuses : {T E : Type 0} → (E → Bool) → Result T E → Bool
refuses is_refusal (Ok done) = false
refuses is_refusal (Err fault) = is_refusal fault

-- the same if each fault is a refusal
abbrev pub is_refused : {T E : Type 0} → Result T E → Bool
is_refused (Ok done) = false
is_refused (Err fault) = true
