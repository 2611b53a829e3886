use Rattle.std.proofs.Common.{◌∷◌, []}
use Rattle.pop3_client.{specs.{Client.place_of, Turns.{rset, quit}}, proofs.TalkLemmas.{completes_talks, completes_then}}
use Rattle.pop3_wire.proofs.LinkLemmas.{and_then}
use Rattle.pop3_client.proofs.client.Client.reset_and_quit.Goals as goal

pub returns-clause-talks : goal.returns-clause-talks
returns-clause-talks g c = and_then g.W.Wire g.met.W.Wire.leads_on c.in_ok-reset.ensures.completes c.quit.ensures.completes (λ first second.
    completes_then rset (quit ∷ []) _ (place_of g.W.Wire c.reset.new.self) _ first.0 c.quit.result first.1
    (completes_talks quit _ _ c.quit.result second))
