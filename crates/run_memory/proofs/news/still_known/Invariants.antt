use Rattle.std.proofs.Common.{◌≡◌, ◌++◌, filter, length}
use Rattle.run_memory.specs.News.{still_known}
use Rattle.run_memory.proofs.news.still_known.Given as goal

abbrev pub invariant-loop-rest : goal.invariant-loop-rest
invariant-loop-rest l = l.kept.items ++ filter (still_known l.now) l.rest ≡ filter (still_known l.now) l.initial.rest

abbrev pub decreases-loop-rest : goal.decreases-loop-rest
decreases-loop-rest l = length l.rest
