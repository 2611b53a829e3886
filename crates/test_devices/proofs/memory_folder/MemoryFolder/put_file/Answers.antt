use Rattle.test_devices.proofs.MemoryFiles.{place_distinct}
use Rattle.test_devices.proofs.memory_folder.MemoryFolder.put_file.Goals as goal

pub invariant_of-self-2 : goal.invariant_of-self-2
invariant_of-self-2 c = place_distinct c.place.result _ _ _ _ c.place.ensures.placed c.place.ensures.err c.self.invariant
