use Rattle.std.proofs.Common.{◌≡◌, ◌++◌, filter, length}
use Rattle.run_memory.specs.News.{has_key}
use Rattle.run_memory.proofs.news.still_large.Given as goal

abbrev pub invariant-loop-rest : goal.invariant-loop-rest
invariant-loop-rest l = l.kept.items ++ filter (has_key l.keys) l.rest ≡ filter (has_key l.keys) l.initial.rest

abbrev pub decreases-loop-rest : goal.decreases-loop-rest
decreases-loop-rest l = length l.rest
