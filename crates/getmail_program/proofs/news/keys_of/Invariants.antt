use Rattle.std.proofs.Common.{◌≡◌, ◌++◌, length, map}
use Rattle.getmail_setup.specs.declared.listed.Large.{Large}
use Rattle.getmail_program.proofs.news.keys_of.Given as goal

abbrev pub invariant-loop-rest : goal.invariant-loop-rest
invariant-loop-rest l = l.keys.items ++ map (λ (message : Large). message.key) l.rest
    ≡ map (λ (message : Large). message.key) l.initial.rest

abbrev pub decreases-loop-rest : goal.decreases-loop-rest
decreases-loop-rest l = length l.rest
