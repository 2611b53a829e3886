use Rattle.std.proofs.Common.{length}
use Rattle.trace.proofs.ways.+mix.Given as goal

abbrev pub decreases-mix : goal.decreases-mix
decreases-mix l = length l.password.now
