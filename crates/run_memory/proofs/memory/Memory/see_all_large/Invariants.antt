use Rattle.std.proofs.Common.{◌≡◌, ◌++◌, length}
use Rattle.run_memory.specs.News.{large_after, large_told}
use Rattle.run_memory.proofs.memory.Memory.see_all_large.Given as goal

abbrev pub invariant-loop-rest : goal.invariant-loop-rest
invariant-loop-rest l =
    (record l.self { large = large_after l.self.large l.rest }
    ≡ record l.initial.self { large = large_after l.initial.self.large l.initial.rest })
    × (l.told.items ++ large_told l.self.large l.rest ≡ large_told l.initial.self.large l.initial.rest)

abbrev pub decreases-loop-rest : goal.decreases-loop-rest
decreases-loop-rest l = length l.rest
