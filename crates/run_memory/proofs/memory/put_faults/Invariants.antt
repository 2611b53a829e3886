use Rattle.std.proofs.Common.{◌≡◌, ◌++◌, take, flat_map}
use Rattle.run_memory.specs.{Lines.known_fault_line, Memory.with_lf}
use Rattle.run_memory.proofs.memory.put_faults.Given as goal

abbrev pub invariant-loop-fault : goal.invariant-loop-fault
invariant-loop-fault l = l.text.items ≡ l.initial.text.items ++ flat_map (λ fault. with_lf (known_fault_line fault))
    (take l.fault-index l.faults)
