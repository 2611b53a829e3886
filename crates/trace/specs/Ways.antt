-- What is kept of the ways to write a password, and of where they end.
use Rattle.std.specs.{
  Prelude.{◌≡◌, ◌≤◌, ◌+◌, ℕ, List, Option, None, Some, drop, length, max, take},
  String.string_bytes,
}
use Rattle.hex.specs.Hex.{encode_lower}
use Rattle.trace.specs.{Masking.{alone_first, alone_second, alone_third, lower, Writes}, declared.ways.Ways.Ways}

-- they are the ways to write this password
pub record WaysOf (password : List ℕ) (ways : Ways) : Type 0 where
  pub plain : ways.password.now ≡ password
  pub hex : string_bytes ways.hex ≡ encode_lower password
  pub first : ways.first.items ≡ lower (alone_first password)
  pub second : ways.second.items ≡ lower (alone_second password)
  pub third : ways.third.items ≡ lower (alone_third password)

-- so many octets of an answer, from this one on, write the password
pub record WritesFrom (answer password : List ℕ) (start size : ℕ) : Type 0 where
  pub within : start + size ≤ length answer
  pub writes : Writes password (take size (drop start (lower answer)))

-- how far the ways go that begin up to some octet: as far as earlier ones, or as this one
abbrev pub end_after : ℕ → ℕ → Option ℕ → ℕ
end_after end start None = end
end_after end start (Some size) = max end (start + size)
