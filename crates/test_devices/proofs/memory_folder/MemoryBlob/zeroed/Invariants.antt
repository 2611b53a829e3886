use Rattle.std.proofs.Common.{◌-◌, length}
use Rattle.test_devices.specs.MemoryFolder.{IsZeroed}
use Rattle.test_devices.proofs.memory_folder.MemoryBlob.zeroed.Given as goal

-- what is there so far
abbrev pub invariant-loop-bytes : goal.invariant-loop-bytes
invariant-loop-bytes l = IsZeroed l.self.content.items l.len l.bytes.items

abbrev pub decreases-loop-bytes : goal.decreases-loop-bytes
decreases-loop-bytes l = l.size - length l.bytes.items
