use Rattle.std.proofs.Common.{◌∷◌, [], Ok, arith, refl, ◌∙◌}
use Rattle.pop3_client.specs.Turns.{retr}
use Rattle.pop3_wire.proofs.LinkLemmas.{in_words, and_then}
use Rattle.session_parts.{
  proofs.{TalkLemmas.{err_is, did_both, took_talked}, TextLemmas.{taken_idle, text_broken}, PartLemmas.{link_broke, runs_talking}},
  specs.{Target.target_of, Task.rereads},
}
use Rattle.fetch_session.proofs.storing.reread.Goals as goal

pub returns : goal.returns
returns g c =
    let work = c.args.work.now in
    let number = c.args.number in
    λ account uid. runs_talking g.W.Wire account (rereads number uid) c.args.client.now c.pass_text.new.client work c.note.new.lines
    (Ok tt) refl (record {
      same = c.pass_text.ensures.link ∙ c.open.ensures.link;
      counted = c.in_ok-length.ensures.counted ∙ c.in_ok-body.ensures.counted;
      took = did_both g.W.Wire c.in_ok-body.ensures.opens c.in_ok-length.ensures.passes
          (λ opened passed. took_talked c.conversations_are_paced.ensures (passed number _ opened).1);
    }) (omega (arith, c.note.ensures.len), omega (arith, c.note.ensures.capacity))
    (and_then g.W.Wire g.met.W.Wire.leads_on c.in_ok-body.ensures.opens c.in_ok-length.ensures.passes (λ opened passed.
    let reply = passed number _ opened in
    taken_idle (target_of work.store account) (record { task = rereads number uid; replies = reply.0 ∷ [] }) (λ account. refl)
    refl refl reply.1.good reply.1 (rw reply.2 at c.note.ensures.items))) c.requires.ready

pub returns-in_err-body : goal.returns-in_err-body
returns-in_err-body g c =
    let work = c.args.work.now in
    let fault = c.in_err-body.field-0.0 in
    rw (err_is c.from_residual.ensures.1) (λ account uid. runs_talking g.W.Wire account (rereads c.args.number uid)
    c.args.client.now c.open.new.self work work.ledger.lines _ refl
    (link_broke c.conversations_are_paced.ensures (retr c.args.number) fault c.open.ensures.link c.in_err-body.ensures.counted
    c.in_err-body.ensures.opens) (omega arith, omega arith) (in_words g.W.Wire c.in_err-body.ensures.opens
    (text_broken (target_of work.store account) fault refl)) c.requires.ready)

pub returns-in_err-length : goal.returns-in_err-length
returns-in_err-length g c =
    let work = c.args.work.now in
    let fault = c.in_err-length.field-0.0 in
    let broke = and_then g.W.Wire g.met.W.Wire.leads_on c.in_ok-body.ensures.opens c.in_err-length.ensures.passes
    (λ opened passed. passed c.args.number _ opened) in
    rw (err_is c.from_residual-in_err-length.ensures.1) (λ account uid. runs_talking g.W.Wire account
    (rereads c.args.number uid) c.args.client.now c.pass_text.new.client work work.ledger.lines _ refl
    (link_broke c.conversations_are_paced.ensures (retr c.args.number) fault (c.pass_text.ensures.link ∙ c.open.ensures.link)
    (rw c.in_ok-body.ensures.counted at c.in_err-length.ensures.counted) broke) (omega arith, omega arith)
    (in_words g.W.Wire broke (text_broken (target_of work.store account) fault refl)) c.requires.ready)
