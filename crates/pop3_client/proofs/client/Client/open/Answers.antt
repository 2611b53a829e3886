use Rattle.std.proofs.Common.{refl, ◌∙◌}
use Rattle.pop3_client.specs.{Client.place_of, Turns.retr}
use Rattle.pop3_wire.proofs.LinkLemmas.{in_words}
use Rattle.pop3_client.proofs.client.Client.open.Goals as goal

pub returns-clause-opens : goal.returns-clause-opens
returns-clause-opens g c =
    let mid = place_of g.W.Wire c.ask.new.self in
    in_words g.W.Wire c.in_ok-ask.ensures.asks (λ asks.
    let begun = asks (retr c.args.number) refl refl (c.deref.ensures.value ∙ c.in_ok-line.ensures.ok) in
    record { line = begun.0; mid = mid; opened = begun.1; under = c.new.ensures.starts mid })
