use Rattle.std.proofs.Common.{◌≡◌, ◌+◌, ◌++◌, ℕ, length, take, drop, refl, ap, sym, ◌∙◌, subst, arith}
use Rattle.std.proofs.lemmas.Grind.{common_steps}
use Rattle.test_devices.specs.Endless.{Endless, first_given, is_sound_endless}
use Rattle.test_devices.proofs.EndlessLemmas.{given_length, next_given}
use Rattle.test_devices.proofs.endless_wire.EndlessWireWire.recv.Goals as goal

pub returns-then-left-eq0-clause-gives : goal.returns-then-left-eq0-clause-gives
returns-then-left-eq0-clause-gives c = λ _ few.
    let size : length c.args.self.now.link.got ≡ c.self.inside.given =
    ap (λ (w : Endless). length w.link.got) (sym c.self.view_is)
    ∙ given_length c.self.inside.front.items c.self.inside.pattern.items c.self.inside.given c.self.invariant in
    grind (arith, common_steps, size, few)

pub returns-clause-next : goal.returns-clause-next
returns-clause-next c =
    let n = c.min-n.result in
    subst (λ (w : Endless). w.link.got ++ take n (c.copy_from_slice.new.self ++ drop n c.args.buf.now)
    ≡ first_given w.front w.pattern (length w.link.got + n))
    c.self.view_is
    (next_given c.self.inside.front.items c.self.inside.pattern.items c.next_piece-piece.result.now c.copy_from_slice.new.self
    (drop n c.args.buf.now)
    c.self.inside.given n c.self.invariant (grind (arith, common_steps)) (grind (arith, common_steps))
    (rw (c.as_slice.ensures.value, c.as_slice-2.ensures.value) at c.next_piece-piece.ensures.follows) (grind (arith, common_steps)))

pub returns-clause-got : goal.returns-clause-got
returns-clause-got c = λ below.
    let n = c.min-n.result in
    let f = c.self.inside.front.items in
    let p = c.self.inside.pattern.items in
    let size : length c.args.self.now.link.got ≡ c.self.inside.given =
    ap (λ (w : Endless). length w.link.got) (sym c.self.view_is) ∙ given_length f p c.self.inside.given c.self.invariant in
    let seam : c.args.self.now.link.got ++ take n (c.copy_from_slice.new.self ++ drop n c.args.buf.now)
    ≡ first_given f p (c.self.inside.given + n) =
    returns-clause-next c
    ∙ ap (λ (w : Endless). first_given w.front w.pattern (length c.args.self.now.link.got + n)) (sym c.self.view_is)
    ∙ ap (λ (k : ℕ). first_given f p (k + n)) size in (
      subst (λ (w : Endless). is_sound_endless w) c.self.view_is below,
      (
        ap (λ (w : Endless). w.front) c.self.view_is,
        ap (λ (w : Endless). w.pattern) c.self.view_is,
        λ _. record { first = ap (first_given f p) (sym (given_length f p (c.self.inside.given + n) c.self.invariant)); unended = refl },
      ),
      grind (arith, common_steps, seam),
    )
