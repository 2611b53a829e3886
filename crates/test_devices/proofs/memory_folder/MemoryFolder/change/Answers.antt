use Rattle.test_devices.proofs.MemoryFiles.{place_distinct}
use Rattle.test_devices.proofs.memory_folder.MemoryFolder.change.Goals as goal

pub invariant_of-self : goal.invariant_of-self
invariant_of-self c = place_distinct c.place.result _ _ _ _ c.place.ensures.placed c.place.ensures.err c.self.invariant
