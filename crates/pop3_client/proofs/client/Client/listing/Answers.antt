use Rattle.pop3_client.{specs.{Client.place_of, Listing.rows_taken, Turns.gives_count}, proofs.TalkLemmas.{lists_of, by_listing}}
use Rattle.std.proofs.Common.{◌≡◌, false, refl}
use Rattle.pop3_wire.proofs.LinkLemmas.{and_then}
use Rattle.pop3_client.proofs.client.Client.listing.Goals as goal

pub returns-clause-lists : goal.returns-clause-lists
returns-clause-lists g c =
    and_then g.W.Wire g.met.W.Wire.leads_on c.in_ok-ask.ensures.asks c.rows.ensures.takes (λ asks takes.
    let begun = asks g.R.ListedRows.turn c.asked.ensures (by_listing (λ turn. gives_count turn ≡ false) refl refl _
    g.met.R.ListedRows.is_listing) c.command.ensures in
    lists_of g.R.ListedRows.turn g.R.ListedRows.stands_for begun.0 _ (place_of g.W.Wire c.ask.new.self) _
    (rows_taken g.R.ListedRows.rows c.rows.result) begun.1 g.met.R.ListedRows.is_listing takes)
