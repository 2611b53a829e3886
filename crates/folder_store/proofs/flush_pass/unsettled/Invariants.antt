use Rattle.std.{proofs.Common.{◌≡◌, not, take}, specs.List.filter}
use Rattle.folder_store.specs.FlushPass.{was_flushed}
use Rattle.folder_store.proofs.flush_pass.unsettled.Given as goal

-- those of the stems so far
abbrev pub invariant-loop-stem : goal.invariant-loop-stem
invariant-loop-stem l = l.left.items ≡ filter (λ stem. not (was_flushed l.found stem.now)) (take l.stem-index l.stems)
