use Rattle.std.proofs.Common.{inr, refl, arith, ◌++◌}
use Rattle.pop3_client.{
  specs.{declared.fault.ClientFault.TheVariants.{ConnectionEnded, ReadFailed, TextTooLong}, Client.place_of, Texts.Fetching},
  specs.Turns.{retr, text_limit},
  proofs.TalkLemmas.{fetched, broke_text},
}
use Rattle.pop3_wire.proofs.LinkLemmas.{in_words, and_then}
use Rattle.pop3_client.proofs.client.Client.next_piece.Goals as goal

pub returns-in-Ok-clause-takes : goal.returns-in-Ok-clause-takes
returns-in-Ok-clause-takes g c =
    let told = place_of g.W.Wire c.tell.new.self in
    and_then g.W.Wire g.met.W.Wire.leads_on c.in-Ok.ensures.takes c.tell.ensures.kept (λ took same number start text now.
    let there : Fetching (retr number) start told c.next.new.self _ =
    rw same (record { line = now.line; mid = now.mid; opened = now.opened; under = took text_limit now.mid text now.under }) in
    (there, λ ended. fetched there (c.in-Ok.ensures.ended.0 ended)))

pub returns-in-Err-Ended-clause-takes : goal.returns-in-Err-Ended-clause-takes
returns-in-Err-Ended-clause-takes g c = in_words g.W.Wire (rw c.in-Err-Ended.field-0-is at c.in-Err-Ended.ensures.takes)
    (λ took number start text now.
    let (leaves, (gained, drew, why)) = took text_limit now.mid text now.under in
    broke_text now.opened ConnectionEnded leaves drew (λ begins. (why.2, inr (now.mid.waiting ++ gained, begins, (why.0, why.1)))) tt)

pub returns-in-Err-Failed-clause-takes : goal.returns-in-Err-Failed-clause-takes
returns-in-Err-Failed-clause-takes g c =
    in_words g.W.Wire (rw c.in-Err-Failed.field-0-is at c.in-Err-Failed.ensures.takes) (λ took number start text now.
    let (leaves, (gained, drew, why)) = took text_limit now.mid text now.under in
    broke_text now.opened ReadFailed leaves drew
    (λ begins. (omega (arith, why.3), inr (now.mid.waiting ++ gained, begins, (why.0, why.1)))) tt)

pub returns-in-Err-TooLong-clause-takes : goal.returns-in-Err-TooLong-clause-takes
returns-in-Err-TooLong-clause-takes g c =
    in_words g.W.Wire (rw c.in-Err-TooLong.field-0-is at c.in-Err-TooLong.ensures.takes) (λ took number start text now.
    let (leaves, (gained, drew, why)) = took text_limit now.mid text now.under in
    broke_text now.opened TextTooLong leaves drew (λ begins. ((number, refl), (now.mid.waiting ++ gained, begins, why.0, why.1))) tt)
