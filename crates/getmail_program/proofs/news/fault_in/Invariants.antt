use Rattle.std.proofs.Common.{◌≡◌, find, length, option_map}
use Rattle.getmail_program.specs.News.{fault_key, is_fault}
use Rattle.getmail_program.proofs.news.fault_in.Given as goal

abbrev pub invariant-loop-rest : goal.invariant-loop-rest
invariant-loop-rest l = option_map fault_key (find is_fault l.rest) ≡ option_map fault_key (find is_fault l.initial.rest)

abbrev pub decreases-loop-rest : goal.decreases-loop-rest
decreases-loop-rest l = length l.rest
