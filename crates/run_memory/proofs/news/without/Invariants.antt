use Rattle.std.proofs.Common.{◌≡◌, ◌++◌, bytes_eq, filter, length, not}
use Rattle.run_memory.specs.declared.line.SaidNotice.{SaidNotice}
use Rattle.run_memory.proofs.news.without.Given as goal

abbrev pub invariant-loop-rest : goal.invariant-loop-rest
invariant-loop-rest l = l.kept.items ++ filter (λ (said : SaidNotice). not (bytes_eq said.key l.key)) l.rest
    ≡ filter (λ (said : SaidNotice). not (bytes_eq said.key l.key)) l.initial.rest

abbrev pub decreases-loop-rest : goal.decreases-loop-rest
decreases-loop-rest l = length l.rest
