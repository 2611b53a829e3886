-- A link that gives a front and then repeats a pattern.
use Rattle.std.specs.Prelude.{◌≡◌, ◌<◌, ◌++◌, ℕ, List, false, length, take}
use Rattle.std.specs.List.{repeat}
use Rattle.mail_terms.specs.FailureCount.{greatest_count}
use Rattle.pop3_wire.specs.Link.{Link}

-- what it gives first, what it repeats after that, and what is known of it
pub record Endless : Type 0 where
  pub front : List ℕ
  pub pattern : List ℕ
  pub link : Link

-- the first octets that it gives, as many as `count`
abbrev pub first_given : List ℕ → List ℕ → ℕ → List ℕ
first_given front pattern count = take count (front ++ repeat count pattern)

-- how many octets it gives at most
abbrev pub most_given : ℕ
most_given = 18446744073709551615

abbrev pub is_sound_endless : Endless → Type 0
is_sound_endless endless = endless.link.failures < greatest_count

-- what was got is the beginning of what it gives, and no `recv` has answered 0
pub record IsEndless (endless : Endless) : Type 0 where
  pub first : endless.link.got ≡ first_given endless.front endless.pattern (length endless.link.got)
  pub unended : endless.link.ended ≡ false

-- the front and the pattern stay, and what was got is still the beginning of what they give
abbrev pub gives_endlessly : Endless → Endless → Type 0
gives_endlessly old new = (new.front ≡ old.front) × (new.pattern ≡ old.pattern) × (IsEndless old → IsEndless new)
