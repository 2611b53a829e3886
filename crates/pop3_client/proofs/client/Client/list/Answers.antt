use Rattle.pop3_client.{specs.Client.place_of, proofs.TalkLemmas.{listed, lists_joined}}
use Rattle.pop3_wire.proofs.LinkLemmas.{and_then}
use Rattle.pop3_client.proofs.client.Client.list.Goals as goal

pub returns-clause-lists : goal.returns-clause-lists
returns-clause-lists g c =
    and_then g.W.Wire g.met.W.Wire.leads_on c.in_ok-uids.ensures.lists c.in_ok-sizes.ensures.lists (λ first second.
    lists_joined c.args.count _ _ c.in_ok-uids.uids c.in_ok-sizes.sizes.items c.joined.result
    (listed _ (place_of g.W.Wire c.listing.new.self) _ c.in_ok-uids.uids c.in_ok-sizes.sizes.items first second)
    (rw (← c.deref.ensures.value) c.joined.ensures.ok) (rw (← c.deref.ensures.value) c.joined.ensures.err))
