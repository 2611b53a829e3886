use Rattle.std.proofs.{Common.{◌≡◌, ◌+◌, ◌-◌, [], ◌++◌, append-nil, refl, sym, ◌∙◌, true≢false, arith}, lemmas.List.take-append-le}
use Rattle.pop3_server.specs.ServerMachine.{greeting_line}
use Rattle.local_fetch.{specs.LoopLaws.serves_none, proofs.LoopLemmas.serves_one}
use Rattle.local_fetch.proofs.loop_wire.LoopWire.answer_line.Goals as goal

pub returns-in_default-clause-serves : goal.returns-in_default-clause-serves
returns-in_default-clause-serves g c =
    rw (← c.self.view_is) (serves_none _ _ _ _ c.in_default.ensures.err.1 refl refl refl (λ told. told)
    (λ e. absurd (true≢false e)) (λ _. refl))

pub returns-then-is_err-clause-serves : goal.returns-then-is_err-clause-serves
returns-then-is_err-clause-serves g c =
    let r = c.self.inside in
    let count : r.used + c.args.octets - r.used ≡ c.args.octets = omega arith in
    let items = rw c.if-is_err.ensures.negation at c.extend_from_slice-kept.ensures.items in
    rw (← c.self.view_is) (serves_one r.used c.args.octets r.given [] c.in-Ok.answer.bytes.items
    (rw (← c.self.view_is) at c.requires.up) (items ∙ sym (append-nil r.answers.items))
    (rw (← c.self.view_is) at c.requires.line) (rw (count, c.deref.ensures.value) at c.in-Ok.ensures.ok) (λ e. absurd (true≢false e)))

pub returns-clause-link : goal.returns-clause-link
returns-clause-link g c =
    let r = c.self.inside in
    rw (
      ← c.self.view_is,
      rw c.if-is_err.ensures.negation at c.extend_from_slice-kept.ensures.items,
      take-append-le r.given (greeting_line ++ r.answers.items) c.as_slice.result.now c.self.invariant.1,
    )

pub returns-clause-serves : goal.returns-clause-serves
returns-clause-serves g c =
    let r = c.self.inside in
    let count : r.used + c.args.octets - r.used ≡ c.args.octets = omega arith in
    rw (← c.self.view_is) (serves_one r.used c.args.octets r.given c.as_slice.result.now [] (rw (← c.self.view_is) at c.requires.up)
    (rw c.if-is_err.ensures.negation at c.extend_from_slice-kept.ensures.items) (rw (← c.self.view_is) at c.requires.line)
    (rw (append-nil, c.as_slice.ensures.value) (rw (count, c.deref.ensures.value) at c.in-Ok.ensures.ok)) (λ _. refl))
