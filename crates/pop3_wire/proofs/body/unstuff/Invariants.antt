use Rattle.std.proofs.Common.{length}
use Rattle.pop3_wire.proofs.BodyLemmas.{ReadsLines}
use Rattle.pop3_wire.proofs.body.unstuff.Given as goal

abbrev pub invariant-loop-line : goal.invariant-loop-line
invariant-loop-line l = ReadsLines l.bytes l.rest l.text.items

abbrev pub decreases-loop-line : goal.decreases-loop-line
decreases-loop-line l = length l.rest
