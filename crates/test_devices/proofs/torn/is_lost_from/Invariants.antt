use Rattle.std.proofs.Common.{◌≡◌, ℕ, ◌<◌, ◌≤◌, slice_index}
use Rattle.test_devices.proofs.torn.is_lost_from.Given as goal

-- there are zeros up to here
abbrev pub invariant-loop-at : goal.invariant-loop-at
invariant-loop-at l = (j : ℕ) → l.place ≤ j → j < l.at → slice_index l.left j ≡ 0
