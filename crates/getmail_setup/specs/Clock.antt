-- The second that a clock shows.
use Rattle.std.specs.{
  Prelude.{◌/◌, ℕ, Option, None, Some},
  Time.system_time_nanos,
  declared.time.SystemTime.SystemTime,
}

-- whole seconds since 1970; 0 if the clock couldn't be read
abbrev pub second_of : Option SystemTime → ℕ
second_of None = 0
second_of (Some time) = system_time_nanos time / 1_000_000_000
