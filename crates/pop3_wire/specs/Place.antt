-- A link, those of its octets that wait to be used, and what reading on gains.
use Rattle.std.specs.Prelude.{◌≡◌, ◌+◌, ◌<◌, ◌≤◌, ◌==◌, ◌||◌, ℕ, Bool, true, false, List, ◌++◌, length, take, drop}
use Rattle.std.specs.Prelude.{Result, Ok, Err}
use Rattle.pop3_wire.specs.{
  Line.{crlf, IsLine},
  Link.Link,
  declared.line_reader.LineFault.{LineFault, TheVariants.{Ended, Failed, TooLong}},
}

-- a link, and those of its octets that wait to be used
pub record Place : Type 0 where
  pub link : Link
  pub waiting : List ℕ

-- how many octets may wait in a reader
abbrev pub most_waiting : ℕ
most_waiting = 4096

abbrev pub at : Link → List ℕ → Place
at link waiting = record { link = link; waiting = waiting }

-- one more piece was got; an empty one says that the link has ended
abbrev pub GotPiece : Link → List ℕ → Link → Type 0
GotPiece old piece new = new ≡ record old { got = old.got ++ piece; ended = old.ended || length piece == 0 }

-- a call was refused, and nothing else changed
abbrev pub WasRefused : Link → Link → Type 0
WasRefused old new = new ≡ record old { failures = old.failures + 1 }

-- nothing was sent, and what was got waits after what waited before
pub record Gains (old new : Place) (gained : List ℕ) : Type 0 where
  pub got : new.link.got ≡ old.link.got ++ gained
  pub waiting : new.waiting ≡ old.waiting ++ gained
  pub sent : new.link.sent ≡ old.link.sent

-- no call was refused, and none answered 0
pub record GoesOn (old new : Link) : Type 0 where
  pub ended : new.ended ≡ old.ended
  pub failures : new.failures ≡ old.failures

-- the first n bytes are a line, and its CR LF ends within the limit
pub record HasLine (limit : ℕ) (bytes : List ℕ) (n : ℕ) : Type 0 where
  pub line : IsLine (take n bytes)
  pub within : n + 2 ≤ limit
  pub whole : bytes ≡ take n bytes ++ (crlf ++ drop (n + 2) bytes)

-- no line ends within the limit
pub record HasNoLine (limit : ℕ) (bytes : List ℕ) : Type 0 where
  pub none : IsLine (take limit bytes)

-- whether a fault is a refused call
abbrev pub is_line_refusal : LineFault → Bool
is_line_refusal Ended = false
is_line_refusal Failed = true
is_line_refusal TooLong = false

-- a line waits; or none does, because the link has ended, a call was refused, or the limit is reached
abbrev pub ReadsLine : ℕ → Place → Result ℕ LineFault → Place → Type 0
ReadsLine limit old (Ok n) new = HasLine limit new.waiting n × GoesOn old.link new.link
ReadsLine limit old (Err Ended) new = HasNoLine limit new.waiting × (length new.waiting < limit)
    × (new.link.ended ≡ true) × (new.link.failures ≡ old.link.failures)
ReadsLine limit old (Err Failed) new = HasNoLine limit new.waiting × (length new.waiting < limit)
    × (new.link.ended ≡ old.link.ended) × (new.link.failures ≡ old.link.failures + 1)
ReadsLine limit old (Err TooLong) new = HasNoLine limit new.waiting × (limit ≤ length new.waiting)
    × GoesOn old.link new.link
