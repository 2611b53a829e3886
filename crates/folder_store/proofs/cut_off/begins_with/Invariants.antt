use Rattle.std.proofs.Common.{◌≡◌, ◌⊎◌, ◌<◌, ℕ, slice_index}
use Rattle.folder_store.proofs.cut_off.begins_with.Given as goal

abbrev pub invariant-loop-place : goal.invariant-loop-place
invariant-loop-place l = (k : ℕ) → k < l.place → (slice_index l.kept k ≡ 0) ⊎ (slice_index l.kept k ≡ slice_index l.entry k)
