use Rattle.std.proofs.{Common.{ℕ, List, ◌++◌, ◌∙◌, ap, sym, ◌≤◌, [], arith}, lemmas.List.{drop-append-le, take_rest}}
use Rattle.pop3_server.specs.ServerMachine.{greeting_line}
use Rattle.local_fetch.proofs.LoopLemmas.{left_second}
use Rattle.local_fetch.proofs.loop_wire.LoopWire.piece.Goals as goal

pub returns-then-self-clause-begins : goal.returns-then-self-clause-begins
returns-then-self-clause-begins g c =
    let r = c.self.inside in
    let within : r.given ≤ 16 = omega (arith, c.if-self.true) in
    rw (← c.self.view_is) (
      r.answers.items,
      drop-append-le r.given greeting_line r.answers.items within
          ∙ ap (λ (l : List ℕ). l ++ r.answers.items) (sym (take_rest greeting_line r.given)),
    )

pub returns-else-self-clause-begins : goal.returns-else-self-clause-begins
returns-else-self-clause-begins g c =
    let r = c.self.inside in
    rw (← c.self.view_is) ([], left_second greeting_line r.answers.items c.deref.result.now r.given c.if-self.false c.deref.ensures.value)
