use Rattle.std.proofs.Common.{◌≡◌, ◌++◌, take, flat_map}
use Rattle.run_memory.specs.{Lines.large_line, Memory.with_lf}
use Rattle.run_memory.proofs.memory.put_keys.Given as goal

abbrev pub invariant-loop-key : goal.invariant-loop-key
invariant-loop-key l = l.text.items ≡ l.initial.text.items ++ flat_map (λ key. with_lf (large_line key)) (take l.key-index l.keys)
