use Rattle.std.specs.List.{AllWithin}
use Rattle.getmail_setup.specs.Connecting.{Refuses}
use Rattle.getmail_setup.proofs.connection.connect_to_first.Given as goal

abbrev pub invariant-loop-address : goal.invariant-loop-address
invariant-loop-address g l =
    AllWithin (Refuses (g.D.Dial.refused l.net) (g.D.Dial.took l.net) g.D.Stream.LimitWaits.is_refused) l.addresses 0 l.address-index
