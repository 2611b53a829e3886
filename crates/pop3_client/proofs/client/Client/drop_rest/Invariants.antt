use Rattle.std.proofs.Common.{◌≡◌, ◌≢◌, ℕ, List}
use Rattle.pop3_wire.specs.{declared.unstuffer.Spot.TheVariants.Done, Place.Place}
use Rattle.pop3_client.specs.{Client.{HasSameLink, WhereLinkSound}, Turns.retr, Texts.Fetching}
use Rattle.pop3_client.proofs.client.Client.drop_rest.Given as goal

abbrev pub invariant-pieces : goal.invariant-pieces
invariant-pieces g l =
    HasSameLink l.fn.self l.self × ((g.W.Wire.history l.self.wire.now).failures ≡ (g.W.Wire.history l.fn.self.wire.now).failures)
    × (l.body.spot ≢ Done) × WhereLinkSound g.W.Wire l.fn.self l.self (λ old new. (number : ℕ) (start : Place) (text : List ℕ)
    → Fetching (retr number) start old l.fn.body text → (more : List ℕ) × Fetching (retr number) start new l.body more)

abbrev pub decreases-pieces : goal.decreases-pieces
decreases-pieces g l = l.body.left
