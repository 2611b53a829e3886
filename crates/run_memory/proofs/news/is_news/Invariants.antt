use Rattle.std.proofs.Common.{◌≡◌, length}
use Rattle.std.specs.List.{list_any}
use Rattle.run_memory.specs.News.{withholds}
use Rattle.run_memory.proofs.news.is_news.Given as goal

abbrev pub invariant-loop-rest : goal.invariant-loop-rest
invariant-loop-rest l = list_any (withholds l.notice l.now) l.rest ≡ list_any (withholds l.notice l.now) l.initial.rest

abbrev pub decreases-loop-rest : goal.decreases-loop-rest
decreases-loop-rest l = length l.rest
