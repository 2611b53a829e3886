use Rattle.std.proofs.Common.{◌-◌, take, drop, length, arith, rules, length-drop, length-take}
use Rattle.pop3_wire.proofs.BodyLemmas.{turn_on}
use Rattle.pop3_wire.proofs.unstuffer.Unstuffer.feed.Goals as goal

pub octets-preserved : goal.octets-preserved
octets-preserved c = (
  omega (
    arith,
    length-take (length c.args.piece.now - c.octets.used) (drop c.octets.used c.args.piece.now),
    length-drop c.octets.used c.args.piece.now,
  ),
  omega arith,
  λ bytes text h. turn_on c.octets.spot c.go_on-next.result.spot bytes text c.args.piece.now c.octets.used c.go_on-next.result.used
      (take c.octets.put c.octets.out) (take c.go_on-next.result.put c.go_on-next.new.out)
      (c.octets.invariant.2 bytes text h) c.go_on-next.ensures.reached,
  search rules,
)
