use Rattle.std.proofs.Common.{Bool}
use Rattle.folder_drop.specs.SameOctets.{TellsSame}
use Rattle.folder_drop.proofs.same_octets.have_same_octets.Given as goal

abbrev pub invariant-loop : goal.invariant-loop
invariant-loop g l = (answer : Bool) → TellsSame (g.F.Read.remaining l.one) (g.G.Read.remaining l.other) answer
    → TellsSame (g.F.Read.remaining l.initial.one) (g.G.Read.remaining l.initial.other) answer
