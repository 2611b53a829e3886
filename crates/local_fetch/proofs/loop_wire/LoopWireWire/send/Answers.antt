use Rattle.std.proofs.{Common.{[], refl, sym, append-nil}, lemmas.List.drop-append-le}
use Rattle.local_fetch.proofs.LoopLemmas.{kept, serves_sent, nothing_sent, call_refused}
use Rattle.local_fetch.proofs.loop_wire.LoopWireWire.send.Goals as goal

pub returns-then-self-clause-sent : goal.returns-then-self-clause-sent
returns-then-self-clause-sent g c = λ below.
    let all = call_refused c.args.self.now [] (nothing_sent g.D.Maildrop.sound g.D.Maildrop.mail c.args.self.now)
    c.refuse.ensures.counted c.refuse.ensures.same below in
    (all.0, all.1, ([], c.args.bytes.now, refl, rw append-nil all.2))

pub returns-then-is_err-clause-sent : goal.returns-then-is_err-clause-sent
returns-then-is_err-clause-sent g c =
    let r = c.self.inside in
    let old = kept r.server r.sent.items r.used r.answers.items r.given r.ended r.down r.failures in
    let items = rw c.if-is_err.ensures.negation at c.extend_from_slice.ensures.items in
    rw (← c.self.view_is) (λ below.
    let all = call_refused old [] (nothing_sent g.D.Maildrop.sound g.D.Maildrop.mail old)
    c.refuse-then-is_err.ensures.counted (rw items at c.refuse-then-is_err.ensures.same) below in
    (all.0, all.1, ([], c.args.bytes.now, refl, rw append-nil all.2)))

pub returns-in-Err-clause-sent : goal.returns-in-Err-clause-sent
returns-in-Err-clause-sent g c =
    let r = c.self.inside in
    let bytes = c.args.bytes.now in
    let items = rw c.if-is_err.ensures.negation at c.extend_from_slice.ensures.items in
    rw (← c.self.view_is) (λ below.
    let all = call_refused (kept r.server r.sent.items r.used r.answers.items r.given r.ended r.down r.failures) bytes
    (rw (items, drop-append-le r.used r.sent.items bytes c.self.invariant.0) at c.in-Err.ensures.serves)
    c.refuse-in-Err.ensures.counted c.refuse-in-Err.ensures.same below in
    (rw c.in-Err.ensures.link at all.0, all.1, (bytes, [], sym (append-nil bytes), rw (c.in-Err.ensures.link, items) at all.2)))

pub returns-in-Ok-clause-sent : goal.returns-in-Ok-clause-sent
returns-in-Ok-clause-sent g c =
    let r = c.self.inside in
    let bytes = c.args.bytes.now in
    let items = rw c.if-is_err.ensures.negation at c.extend_from_slice.ensures.items in
    rw (← c.self.view_is) (λ below. (
      rw c.in-Ok.ensures.link at below,
      serves_sent _ bytes _ _ (rw (items, drop-append-le r.used r.sent.items bytes c.self.invariant.0) at
          c.in-Ok.ensures.serves) (λ _. c.in-Ok.ensures.up) (λ e. e),
      rw items at c.in-Ok.ensures.link,
    ))
