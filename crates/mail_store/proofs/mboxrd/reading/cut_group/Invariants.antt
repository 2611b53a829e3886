use Rattle.std.proofs.Common.{◌<◌, ℕ, List, length}
use Rattle.mail_store.specs.Mboxrd.{StartsGroup}
use Rattle.mail_store.proofs.mboxrd.reading.cut_group.Given as goal

abbrev pub invariant-loop-line : goal.invariant-loop-line
invariant-loop-line l = (length l.rest < length l.bytes) × (front : List ℕ) × StartsGroup l.bytes front l.rest

abbrev pub decreases-loop-line : goal.decreases-loop-line
decreases-loop-line l = length l.rest
