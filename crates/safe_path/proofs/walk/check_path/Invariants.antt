use Rattle.std.specs.String.{string_bytes}
use Rattle.safe_path.specs.Walk.{CameTo}
use Rattle.safe_path.proofs.walk.check_path.Given as goal

abbrev pub invariant-loop-links : goal.invariant-loop-links
invariant-loop-links g l = CameTo g.L.Looks l.looks l.named.kind (string_bytes l.names) l._links l.next
