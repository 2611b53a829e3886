use Rattle.std.proofs.Common.{length, ℕ, List}
use denote.Text.{Utf8}
use denote.Shadow.{shadow}
use Rattle.safe_path.specs.{Check.{GetsTo}, Walk.{spot_at}}
use Rattle.safe_path.proofs.walk.go_on.Given as goal

-- what reached the spot at which the walk began reaches the one at which it is
abbrev pub invariant-loop-turn : goal.invariant-loop-turn
invariant-loop-turn g l = shadow (Utf8 l.names) × ((whole : List ℕ) (links : ℕ)
    → GetsTo g.L.Looks l.looks whole links (spot_at l.initial.place l.initial.names)
    → GetsTo g.L.Looks l.looks whole links (spot_at l.place l.names))

abbrev pub decreases-loop-turn : goal.decreases-loop-turn
decreases-loop-turn g l = length l.names
