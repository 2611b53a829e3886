use Rattle.std.proofs.Common.{◌≡◌, ◌++◌, length}
use Rattle.run_memory.specs.News.{notices_after, notices_told}
use Rattle.run_memory.proofs.memory.Memory.see_notices.Given as goal

abbrev pub invariant-loop-rest : goal.invariant-loop-rest
invariant-loop-rest l =
    (record l.self { notices = notices_after l.self.notices l.rest l.now }
    ≡ record l.initial.self { notices = notices_after l.initial.self.notices l.initial.rest l.now })
    × (l.told.items ++ notices_told l.self.notices l.rest l.now ≡ notices_told l.initial.self.notices l.initial.rest l.now)

abbrev pub decreases-loop-rest : goal.decreases-loop-rest
decreases-loop-rest l = length l.rest
