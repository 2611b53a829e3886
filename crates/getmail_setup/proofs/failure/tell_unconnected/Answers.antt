use Rattle.getmail_setup.proofs.OutputLemmas.{puts_three}
use Rattle.getmail_setup.proofs.failure.tell_unconnected.Goals as goal

pub returns : goal.returns
returns g c =
    puts_three g.E.Write.contents _ _ _ _ _ _ _ c.put.ensures c.put_peer.ensures c.put-2.ensures
