use Rattle.std.proofs.{Common.{take, refl}, lemmas.Bool.false≢true}
use Rattle.pop3_client.{specs.{Client.place_of, Turns.greeting}, proofs.TalkLemmas.{opened, nothing_said}}
use Rattle.pop3_wire.proofs.LinkLemmas.{in_words}
use Rattle.pop3_client.proofs.client.Client.greet.Goals as goal

pub returns-clause-asks : goal.returns-clause-asks
returns-clause-asks g c =
    let old = place_of g.W.Wire c.args.self.now in
    in_words g.W.Wire c.in_ok-length.ensures.heard (λ hears. (
      take c.in_ok-length.length c.hear.new.self.reader,
      rw c.skip.ensures (opened {old = old} greeting (nothing_said old.link) refl (hears greeting refl)
          (λ gives. absurd (false≢true gives))),
    ))
