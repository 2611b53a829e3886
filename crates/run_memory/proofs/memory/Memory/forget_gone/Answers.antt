use Rattle.run_memory.specs.News.{has_key}
use Rattle.run_memory.proofs.MemoryLemmas.{large_filtered}
use Rattle.run_memory.proofs.memory.Memory.forget_gone.Goals as goal

pub invariant_of-self : goal.invariant_of-self
invariant_of-self c =
    large_filtered (record {
      faults = c.self.inside.faults.items;
      left = c.self.inside.left;
      marks = c.self.inside.marks;
      notices = c.self.inside.notices.items;
      large = c.self.inside.large.items;
    }) _ (has_key c.args.keys.now) (rw c.deref.ensures.value at c.in_ok-self-inside.ensures) c.self.invariant
