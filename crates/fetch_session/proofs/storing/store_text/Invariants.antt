use Rattle.std.proofs.Common.{◌≡◌, ◌≢◌, ◌≤◌, ◌+◌, ◌*◌, ℕ, List, [], string_bytes}
use Rattle.pop3_wire.specs.{Link.WhereSound, Place.Place, declared.unstuffer.Spot.TheVariants.Done}
use Rattle.pop3_client.specs.{Client.{HasSameLink, place_of}, Turns.{retr, text_limit}, Texts.Fetching}
use Rattle.mail_store.specs.Maildir.{draft}
use Rattle.session_parts.specs.Store.{begun_with}
use Rattle.fetch_session.proofs.storing.store_text.Given as goal

abbrev pub invariant-pieces : goal.invariant-pieces
invariant-pieces g l =
    (l.rest.spot ≢ Done) × (l.length + 4097 * l.rest.left ≤ 4097 * text_limit)
    × ((text : List ℕ) × (l.length ≡ Rattle.std.specs.Prelude.length text) × (g.D.MaildirDisk.sound l.disk → g.D.MaildirDisk.sound l.fn.disk
    × (g.D.MaildirDisk.maildir l.disk ≡ begun_with (g.D.MaildirDisk.maildir l.fn.disk) (draft (string_bytes l.fn.stem) text)))
    × WhereSound g.W.Wire.sound g.W.Wire.leads_to l.fn.client.wire.now l.client.wire.now ((number : ℕ) (start : Place)
    → Fetching (retr number) start (place_of g.W.Wire l.fn.client) l.fn.body []
    → Fetching (retr number) start (place_of g.W.Wire l.client) l.rest text))
    × ((g.W.Wire.history l.client.wire.now).failures ≡ (g.W.Wire.history l.fn.client.wire.now).failures) × HasSameLink l.fn.client l.client

abbrev pub decreases-pieces : goal.decreases-pieces
decreases-pieces g l = l.rest.left
