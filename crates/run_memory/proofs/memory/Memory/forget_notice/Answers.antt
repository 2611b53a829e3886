use Rattle.std.proofs.Common.{bytes_eq, not}
use Rattle.run_memory.specs.declared.line.SaidNotice.{SaidNotice}
use Rattle.run_memory.proofs.MemoryLemmas.{notices_filtered}
use Rattle.run_memory.proofs.memory.Memory.forget_notice.Goals as goal

pub invariant_of-self : goal.invariant_of-self
invariant_of-self c =
    notices_filtered (record {
      faults = c.self.inside.faults.items;
      left = c.self.inside.left;
      marks = c.self.inside.marks;
      notices = c.self.inside.notices.items;
      large = c.self.inside.large.items;
    }) _ (λ (said : SaidNotice). not (bytes_eq said.key c.args.key)) (rw c.deref.ensures.value at c.in_ok-self-inside.ensures)
    c.self.invariant
