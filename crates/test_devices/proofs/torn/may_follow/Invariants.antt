use Rattle.std.proofs.Common.{◌≡◌, ℕ, ◌<◌, ◌≤◌, ◌/◌, Some, slice_index, length}
use Rattle.mail_store.specs.{Durable.{IsByteLeft}, Settling.{block_size}}
use Rattle.test_devices.proofs.torn.may_follow.Given as goal

-- each octet up to here may be there, and the block that is lost has only zeros from here on
abbrev pub invariant-loop-place : goal.invariant-loop-place
invariant-loop-place l = ((i : ℕ) → l.from ≤ i → i < l.place → IsByteLeft l.content l.flushed l.left i)
    × ((b j : ℕ) → l.lost ≡ Some b → l.place ≤ j → j < length l.left → j / block_size ≡ b → slice_index l.left j ≡ 0)
