use Rattle.std.proofs.Common.{ap, sym, subst, arith}
use Rattle.pop3_wire.{specs.{Place.at, Bodies.{Rest, UnderWay}}, proofs.BodiesLemmas.{under_way_on, under_way_ends, under_way_too_long}}
use Rattle.mail_terms.proofs.ErrLemmas.{err_is}
use Rattle.pop3_wire.proofs.body_reader.BodyReader.next.Goals as goal

pub returns-then-self-eq0-clause-takes : goal.returns-then-self-eq0-clause-takes
returns-then-self-eq0-clause-takes g c = λ s.
    let left = ap (λ (b : Rest). b.left) c.self.view_is in (
      s,
      g.met.W.Wire.leads_same c.args.wire.now,
      λ limit start text under. under_way_too_long under c.requires (omega (arith, left)),
    )

pub returns-in_err-draw-clause-takes : goal.returns-in_err-draw-clause-takes
returns-in_err-draw-clause-takes g c =
    rw (err_is c.from_residual.ensures.1) (λ s.
    let left = ap (λ (b : Rest). b.left) c.self.view_is in
    let nothing = c.in_err-draw.ensures.err in
    let after = nothing.2 s in (
      after.0,
      after.1,
      λ limit start text under. under_way_ends under c.requires (omega (arith, left)) c.in_err-draw.field-0.0
          (g.W.Wire.history c.draw.new.wire) c.draw.new.reader nothing.0 nothing.1 after.2,
    ))

pub returns-clause-takes : goal.returns-clause-takes
returns-clause-takes g c = λ s.
    let drawn = c.in_ok-draw.ensures.ok in
    let after = drawn.3 s in
    let used = c.use_waiting-fed.ensures.used in (
      after.0,
      after.1,
      λ limit start text under. under_way_on
          (subst (λ (b : Rest). UnderWay limit start (at (g.W.Wire.history c.args.wire.now) c.args.reader.now) b text)
          (sym c.self.view_is) under) (g.W.Wire.history c.draw.new.wire) drawn.0 c.draw.new.reader c.use_waiting-fed.new.reader
          c.use_waiting-fed.result.used c.use_waiting-fed.new.unstuffer _
          drawn.1 after.2.0 after.2.1 used.0 used.1 used.2 c.use_waiting-fed.ensures.reached,
    )
