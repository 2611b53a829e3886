-- What an unattended run tells, by when it was told before. Times are seconds since 1970; a mark of 0 is none.
use Rattle.std.specs.Prelude.{◌+◌, ◌-◌, ◌^◌, ◌==◌, ◌||◌, ℕ, Bool, Option, None, Some, min, nat_le, nat_lt}
use Rattle.std.specs.Prelude.{if◌then◌else◌}
use Rattle.run_memory.specs.declared.times.{Telling.{Telling, TheVariants.{First, Again, Nothing}}, Times.Times}

abbrev pub hour : ℕ
hour = 3600

abbrev pub day : ℕ
day = 86400

abbrev pub week : ℕ
week = 604800

-- there is no mark, or one that is still to come: the clock was ahead
abbrev pub is_void : ℕ → ℕ → Bool
is_void mark now = (mark == 0) || nat_lt now mark

-- a mark counts as none, or so many seconds have passed since
abbrev pub is_over : ℕ → ℕ → ℕ → Bool
is_over seconds mark now = is_void mark now || nat_le seconds (now - mark)

-- since when something lasts that lasts now
abbrev pub begun : ℕ → ℕ → ℕ
begun mark now = if is_void mark now then now else mark

-- a fault that is seen for the first time
abbrev pub first_times : ℕ → Times
first_times now = record { since = now; told = now; runs = 1 }

-- a fault that was seen before, and is told now or was told less than a day ago
abbrev pub later_times : Times → ℕ → Times
later_times times now = record {
  since = times.since;
  told = if nat_le day (now - times.told) then now else times.told;
  runs = min (times.runs + 1) (2 ^ 64 - 1);
}

-- when a fault was seen, once it is seen now too
abbrev pub times_after : Option Times → ℕ → Times
times_after None now = first_times now
times_after (Some times) now = if is_void times.told now then first_times now else later_times times now

-- a fault is told unless it was told less than a day ago, whether or not it went away since
abbrev pub telling_of : Option Times → ℕ → Telling
telling_of None now = First
telling_of (Some times) now =
    if is_void times.told now then First
    else if nat_le day (now - times.told) then Again (later_times times now) else Nothing

-- the lock of another run was taken at a mark of its own, or else first met at one of this account's runs: it is told
-- after an hour
abbrev pub is_long_held : ℕ → ℕ → ℕ → Bool
is_long_held held met now = nat_le hour (now - (if is_void held now then begun met now else held))
