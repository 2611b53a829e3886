-- What laws say of the limits that settings set: they name these, and not the fields that set one.
use Rattle.std.specs.Prelude.{◌≡◌, ℕ, true}
use Rattle.rc_file.specs.declared.settings.Settings.{Settings}
use Rattle.fetch_rules.specs.Wanted.{allows_size}

-- this is the limit on a message's size, and there is no other limit on a message; 0 is none
abbrev pub SetsSizeLimit : Settings → ℕ → Type 0
SetsSizeLimit settings limit = settings.max_size ≡ limit

-- these are the limits on a message's size and on how many messages a session fetches, and there is no other; 0 is none
pub record SetsLimits (settings : Settings) (size count : ℕ) : Type 0 where
  pub sizes : SetsSizeLimit settings size
  pub number : settings.max_count ≡ count

-- there is no limit on what a session fetches
abbrev pub SetsNoLimits : Settings → Type 0
SetsNoLimits settings = SetsLimits settings 0 0

-- a message of this size is within all limits if a session fetches no other
abbrev pub AllowsAlone : Settings → ℕ → Type 0
AllowsAlone settings size = allows_size settings size ≡ true
