use Rattle.std.proofs.{
  Common.{◌≡◌, ◌+◌, ◌++◌, List, ℕ, drop, length, ap, sym, ◌∙◌, subst, take-append-drop, arith},
  lemmas.Grind.common_steps,
  Math.Seq.{take-add, take-append_seam},
}
use Rattle.test_devices.{
  specs.Script.{Script, is_script_sound, TellsReplies},
  proofs.script_wire.ScriptWireWire.recv.Goals.{then-self, else-self},
}
use Rattle.test_devices.proofs.script_wire.ScriptWireWire.recv.Goals as goal

pub returns-then-is_full-clause-front : goal.returns-then-is_full-clause-front
returns-then-is_full-clause-front c =
    subst (λ (w : Script). (rest : List ℕ) × (w.replies ≡ w.link.got ++ rest)) c.self.view_is
    (drop c.self.inside.given c.self.inside.replies.items, sym (take-append-drop c.self.inside.given c.self.inside.replies.items))

pub returns-clause-front : goal.returns-clause-front
returns-clause-front c = (
  drop (c.self.inside.given + c.min-n.result) c.self.inside.replies.items,
  sym (take-append-drop (c.self.inside.given + c.min-n.result) c.self.inside.replies.items),
)

pub returns-clause-got : goal.returns-clause-got
returns-clause-got c = λ below. (
  subst (λ (w : Script). is_script_sound w) c.self.view_is below,
  (
    ap (λ (w : Script). w.replies) c.self.view_is,
    ap (λ (w : Script). w.cut) c.self.view_is,
    λ told. record {
      begins = returns-clause-front c;
      whole = λ e.
          let was = subst (λ (w : Script). TellsReplies w) (sym c.self.view_is) told in
          let none : c.min-n.result ≡ 0 = elim c.if-self.branch [
            | then-self w ↦ let all = ap length (was.whole w.if-self.true) in grind (arith, common_steps, all)
            | else-self w ↦ let empty = sym w.self-is ∙ e in grind (arith, empty)
          ] in
          grind (arith, common_steps, none);
    },
  ),
  grind (arith, common_steps, take-add, take-append_seam),
)
