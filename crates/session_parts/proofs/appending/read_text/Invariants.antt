use Rattle.std.proofs.Common.{◌≡◌, ◌≢◌, ℕ, []}
use Rattle.pop3_wire.specs.{Place.Place, declared.unstuffer.Spot.TheVariants.Done}
use Rattle.pop3_client.specs.{Client.{HasSameLink, place_of}, Turns.retr, Texts.Fetching}
use Rattle.session_parts.proofs.appending.read_text.Given as goal

abbrev pub invariant-pieces : goal.invariant-pieces
invariant-pieces g l =
    (l.rest.spot ≢ Done)
    × (g.W.Wire.sound l.client.wire.now → g.W.Wire.sound l.fn.client.wire.now × g.W.Wire.leads_to l.fn.client.wire.now l.client.wire.now
    × ((number : ℕ) (start : Place) → Fetching (retr number) start (place_of g.W.Wire l.fn.client) l.fn.body []
    → Fetching (retr number) start (place_of g.W.Wire l.client) l.rest l.text.items))
    × ((g.W.Wire.history l.client.wire.now).failures ≡ (g.W.Wire.history l.fn.client.wire.now).failures) × HasSameLink l.fn.client l.client

abbrev pub decreases-pieces : goal.decreases-pieces
decreases-pieces g l = l.rest.left
