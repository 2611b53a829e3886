use Rattle.std.proofs.Common.{◌≡◌, ℕ, ◌<◌, get_or, String, Global, string_bytes}
use Rattle.test_devices.proofs.memory_folder.place_of.Given as goal

-- no pair in front has the name
abbrev pub invariant-loop-i : goal.invariant-loop-i
invariant-loop-i g l = (k : ℕ) (d : String Global × (g.row.T).Denot) → k < l.i → string_bytes (get_or l.named k d).0 ≡ l.name → ⊥
