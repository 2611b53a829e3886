use Rattle.std.proofs.{Common.{take, sym, ◌∙◌}, lemmas.Bool.false≢true}
use Rattle.pop3_client.{specs.Client.place_of, proofs.TalkLemmas.opened}
use Rattle.pop3_wire.proofs.LinkLemmas.{and_then}
use Rattle.pop3_client.proofs.client.Client.ask.Goals as goal

pub returns-clause-asks : goal.returns-clause-asks
returns-clause-asks g c =
    and_then g.W.Wire g.met.W.Wire.leads_on c.in_ok-say.ensures.sent c.in_ok-length.ensures.heard (λ said heard turn names other is.
    let waits = rw c.in_ok-say.ensures.silent at (heard turn names) in (
      take c.in_ok-length.length c.hear.new.self.reader,
      rw c.skip.ensures (opened {old = place_of g.W.Wire c.args.self.now} turn said is waits
          (λ gives. absurd (false≢true (sym other ∙ gives)))),
    ))
