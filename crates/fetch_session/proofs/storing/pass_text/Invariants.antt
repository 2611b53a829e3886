use Rattle.std.proofs.Common.{◌≡◌, ◌≢◌, ◌≤◌, ◌+◌, ◌*◌, ℕ, List, [], length}
use Rattle.pop3_wire.specs.{Place.Place, declared.unstuffer.Spot.TheVariants.Done}
use Rattle.pop3_client.specs.{Client.{HasSameLink, place_of}, Turns.{retr, text_limit}, Texts.Fetching}
use Rattle.fetch_session.proofs.storing.pass_text.Given as goal

abbrev pub invariant-pieces : goal.invariant-pieces
invariant-pieces g l =
    (l.rest.spot ≢ Done) × (l.length + 4097 * l.rest.left ≤ 4097 * text_limit)
    × (g.W.Wire.sound l.client.wire.now → g.W.Wire.sound l.fn.client.wire.now × g.W.Wire.leads_to l.fn.client.wire.now l.client.wire.now
    × ((number : ℕ) (start : Place) → Fetching (retr number) start (place_of g.W.Wire l.fn.client) l.fn.body []
    → (text : List ℕ) × Fetching (retr number) start (place_of g.W.Wire l.client) l.rest text × (l.length ≡ length text)))
    × ((g.W.Wire.history l.client.wire.now).failures ≡ (g.W.Wire.history l.fn.client.wire.now).failures) × HasSameLink l.fn.client l.client

abbrev pub decreases-pieces : goal.decreases-pieces
decreases-pieces g l = l.rest.left
