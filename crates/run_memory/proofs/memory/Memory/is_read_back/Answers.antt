use Rattle.run_memory.proofs.MemoryLemmas.{read_back}
use Rattle.run_memory.proofs.memory.Memory.is_read_back.Goals as goal

pub returns : goal.returns
returns c = read_back _ _ c.self.invariant c.self.view_is
