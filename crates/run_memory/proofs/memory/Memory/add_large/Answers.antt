use Rattle.run_memory.proofs.MemoryLemmas.{large_kept}
use Rattle.run_memory.proofs.memory.Memory.add_large.Goals as goal

pub invariant_of-self : goal.invariant_of-self
invariant_of-self c =
    large_kept (record {
      faults = c.self.inside.faults.items;
      left = c.self.inside.left;
      marks = c.self.inside.marks;
      notices = c.self.inside.notices.items;
      large = c.self.inside.large.items;
    })
    c.push_last.new.items.items c.args.key c.push_last.result c.push_last.ensures.ok
    c.push_last.ensures.err c.as_slice.ensures.digits c.self.invariant
