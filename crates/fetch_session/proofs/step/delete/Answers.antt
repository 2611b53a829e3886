use Rattle.std.proofs.{Common.{◌∷◌, [], Ok, refl, arith}, lemmas.Bool.{not-false, not-true}}
use Rattle.pop3_client.specs.Turns.{dele}
use Rattle.pop3_wire.proofs.LinkLemmas.{in_words}
use Rattle.session_parts.{
  specs.{Task.deletes, Target.target_of},
  proofs.{TalkLemmas.{err_is, did_so, took_completing}, PartLemmas.{link_broke, runs_nothing, runs_talking}},
  proofs.TextLemmas.{taken_idle, text_broken},
}
use Rattle.fetch_session.proofs.step.delete.Goals as goal

pub returns-then-not-step : goal.returns-then-not-step
returns-then-not-step g c = rw (not-true c.args.step.delete c.if-not-step.true)
    (λ account ready. runs_nothing g.met.W.Wire.leads_same ready.ready)

pub returns-in_err-delete : goal.returns-in_err-delete
returns-in_err-delete g c =
    let work = c.args.work.now in
    let number = c.args.step.number in
    let fault = c.in_err-delete.field-0.0 in
    rw (not-false c.args.step.delete c.if-not-step.false, err_is c.from_residual.ensures.1) (λ account ready.
    runs_talking g.W.Wire account (deletes number) c.args.client.now c.delete.new.self work work.ledger.lines _ refl
    (link_broke c.conversations_are_paced.ensures (dele number) fault c.delete.ensures.link c.in_err-delete.ensures.counted
    c.in_err-delete.ensures.completes) (omega arith, omega arith) (in_words g.W.Wire c.in_err-delete.ensures.completes
    (text_broken (target_of work.store account) fault refl)) ready.ready)

pub returns : goal.returns
returns g c =
    let work = c.args.work.now in
    let number = c.args.step.number in
    let completes = c.in_ok-delete.ensures.completes in
    rw (not-false c.args.step.delete c.if-not-step.false) (λ account ready.
    runs_talking g.W.Wire account (deletes number) c.args.client.now c.delete.new.self work c.note.new.lines (Ok tt) refl (record {
      same = c.delete.ensures.link;
      counted = c.in_ok-delete.ensures.counted;
      took = did_so g.W.Wire completes (took_completing c.conversations_are_paced.ensures (dele number) _ _ (Ok tt));
    }) (omega (arith, c.note.ensures.len), omega (arith, c.note.ensures.capacity)) (in_words g.W.Wire completes (λ is.
    taken_idle (target_of work.store account) (record { task = deletes number; replies = is.0 ∷ [] }) (λ account. refl) refl refl
    is.1.good is.1 c.note.ensures.items)) ready.ready)
