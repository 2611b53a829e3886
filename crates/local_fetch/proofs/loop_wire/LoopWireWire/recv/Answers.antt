use Rattle.std.proofs.{
  Common.{◌≡◌, ◌≤◌, ◌+◌, ◌++◌, [], length, length-drop, drop, eqb-true, inl, inr, ap, refl, arith, take-append-drop},
  lemmas.{Bool.or_cases, List.nil_from_length},
}
use Rattle.pop3_server.specs.ServerMachine.{greeting_line}
use Rattle.local_fetch.{
  specs.LoopLaws.{same_refl, serves_none},
  proofs.{LoopLemmas.{nothing_sent, Gives, gives, call_refused}, loop_wire.LoopWireWire.recv.Goals.After-copy_from_slice},
}
use Rattle.local_fetch.proofs.loop_wire.LoopWireWire.recv.Goals as goal

pub returns-then-self-clause-got : goal.returns-then-self-clause-got
returns-then-self-clause-got g c =
    call_refused c.args.self.now [] (nothing_sent g.D.Maildrop.sound g.D.Maildrop.mail c.args.self.now)
    c.refuse.ensures.counted c.refuse.ensures.same

octets_given : (g : _) (c : After-copy_from_slice g) → Gives (greeting_line ++ c.self.inside.answers.items)
    (c.copy_from_slice.new.self ++ drop c.min-n.result c.args.buf.now) c.self.inside.given c.min-n.result
octets_given g c =
    let few : c.min-n.result ≤ length c.piece-piece.result.now = omega (arith, c.min-n.ensures) in
    gives (greeting_line ++ c.self.inside.answers.items) c.piece-piece.result.now c.piece-piece.ensures.begins.0
    c.copy_from_slice.new.self c.args.buf.now c.self.inside.given c.min-n.result c.self.invariant.1
    (rw (← c.self.view_is) at c.piece-piece.ensures.begins.1) few c.copy_from_slice.ensures.after

pub invariant_of-self : goal.invariant_of-self
invariant_of-self g c =
    let r = c.self.inside in
    let n = c.min-n.result in
    let all = greeting_line ++ r.answers.items in (
      c.self.invariant.0,
      (octets_given g (goal.at.invariant_of-self g c).After-copy_from_slice).0,
      c.self.invariant.2,
      λ over.
          let none : drop r.given all ≡ [] = elim (or_cases _ _ over) [
            | inl was ↦ c.self.invariant.3 was
            | inr zero ↦ rw (← c.self.view_is) at
                (c.piece-piece.ensures.some (nil_from_length _ (omega (arith, eqb-true _ 0 zero, c.min-n.ensures, c.requires))))
          ] in
          nil_from_length (drop (r.given + n) all) (omega (arith, ap length none, length-drop r.given all, length-drop (r.given + n) all)),
    )

pub returns-clause-got : goal.returns-clause-got
returns-clause-got g c =
    let r = c.self.inside in
    rw (← c.self.view_is) (λ below. (
      below,
      serves_none _ _ _ _ (same_refl _ _ _) refl refl refl
          (λ _. take-append-drop (r.given + c.min-n.result) (greeting_line ++ r.answers.items)) (λ _. refl) (λ e. e),
      rw ((octets_given g (goal.at.returns-clause-got g c).After-copy_from_slice).1),
    ))

pub returns-clause-gives : goal.returns-clause-gives
returns-clause-gives g c = rw (← c.self.view_is) (octets_given g (goal.at.returns-clause-gives g c).After-copy_from_slice).2
