use Rattle.std.proofs.Common.{◌≡◌, ◌≤◌, ◌+◌, ◌-◌, ◌++◌, ℕ, List, length, take}
use Rattle.pop3_wire.specs.{declared.unstuffer.Spot.TheVariants.Done, Unstuffing.{Reaches, held_back}}
use Rattle.pop3_wire.proofs.unstuffer.Unstuffer.feed.Given as goal

abbrev pub invariant-octets : goal.invariant-octets
invariant-octets l = (l.used ≤ length l.piece) × (l.put + held_back l.spot ≤ l.used + held_back l.initial.spot)
    × ((bytes text : List ℕ) → Reaches l.initial.spot bytes text → Reaches l.spot (bytes ++ take l.used l.piece) (text ++ take l.put l.out))
    × (l.initial.spot ≡ Done → (l.spot ≡ Done) × (l.used ≡ 0) × (l.put ≡ 0))

abbrev pub decreases-octets : goal.decreases-octets
decreases-octets l = length l.piece - l.used
