use Rattle.run_memory.specs.News.{still_known}
use Rattle.run_memory.proofs.MemoryLemmas.{faults_filtered}
use Rattle.run_memory.proofs.memory.Memory.forget_old.Goals as goal

pub invariant_of-self : goal.invariant_of-self
invariant_of-self c =
    faults_filtered (record {
      faults = c.self.inside.faults.items;
      left = c.self.inside.left;
      marks = c.self.inside.marks;
      notices = c.self.inside.notices.items;
      large = c.self.inside.large.items;
    }) _ (still_known c.args.now) (rw c.deref.ensures.value at c.in_ok-self-inside.ensures) c.self.invariant
