use Rattle.std.proofs.Common.{◌≡◌, ◌-◌, length}
use Rattle.pop3_client.{specs.Client.{HasSameLink, WhereLinkSound}, proofs.TalkLemmas.TookRows}
use Rattle.mail_terms.specs.Listing.{message_limit}
use Rattle.pop3_client.proofs.client.Client.rows.Given as goal

abbrev pub invariant-rows : goal.invariant-rows
invariant-rows g l =
    HasSameLink l.fn.self l.self × ((g.W.Wire.history l.self.wire.now).failures ≡ (g.W.Wire.history l.fn.self.wire.now).failures)
    × WhereLinkSound g.W.Wire l.fn.self l.self
    (λ old new. TookRows g.R.ListedRows.turn g.R.ListedRows.stands_for old new (g.R.ListedRows.rows l.rows))

abbrev pub decreases-rows : goal.decreases-rows
decreases-rows g l = message_limit - length (g.R.ListedRows.rows l.rows)
