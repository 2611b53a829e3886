use Rattle.std.proofs.{
  Common.{arith, subst},
  lemmas.List.{get_or_default, Elements.AllWithin-more},
}
use Rattle.getmail_setup.specs.Connecting.{Refuses}
use Rattle.getmail_setup.proofs.connection.connect_to_first.Goals as goal

pub loop-address-preserved : goal.loop-address-preserved
loop-address-preserved g c =
    let i = c.loop-address.address-index in
    AllWithin-more (Refuses (g.D.Dial.refused c.args.net.now) (g.D.Dial.took c.args.net.now) g.D.Stream.LimitWaits.is_refused)
    c.args.addresses.now 0 i c.loop-address.invariant
    (λ d. subst (Refuses (g.D.Dial.refused c.args.net.now) (g.D.Dial.took c.args.net.now) g.D.Stream.LimitWaits.is_refused)
    (get_or_default c.args.addresses.now i _ d (omega (arith, c.loop-address-test.true, c.loop-address.auto.address-index-end)))
    c.in-Err.ensures.err)
