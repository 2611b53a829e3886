use Rattle.std.proofs.Common.{◌≡◌, ◌≤◌, ◌<◌, ◌+◌, ◌*◌, length, arith, refl, ap, ◌∙◌, Ok, length-append, length-drop}
use Rattle.pop3_wire.{specs.Link.Link, proofs.LinkLemmas.{in_words, and_then}}
use Rattle.pop3_server.{
  specs.Got.Waiting,
  proofs.ServeLemmas.{dropped_line, reads_long, reads_more, reads_end, reads_cut},
  proofs.intake.Intake.next.Goals.{then-not-is_long, else-not-is_long},
}
use Rattle.mail_terms.proofs.ErrLemmas.{err_is}
use Rattle.pop3_server.proofs.intake.Intake.next.Goals as goal

pub returns-then-is_long-clause-hears : goal.returns-then-is_long-clause-hears
returns-then-is_long-clause-hears g c =
    rw c.skip.ensures (in_words g.W.Wire c.loop-length.invariant.3
    (λ d. dropped_line (rw (c.if-is_long.true, ← c.line_end.ensures.same) at d) c.in-Some.ensures.found))

pub returns-in_err-more-clause-hears : goal.returns-in_err-more-clause-hears
returns-in_err-more-clause-hears g c =
    let takes = c.in_err-more.ensures.takes in
    rw (err_is c.from_residual.ensures.1) (and_then g.W.Wire g.met.W.Wire.leads_on c.loop-length.invariant.3 takes.5 (λ before more. (
      c.in_err-more.ensures.err,
      reads_cut _ _ _ _ _ more.0 takes.2 takes.1 c.loop-length.is_long (rw (← c.line_end.ensures.same) at before),
    )))

pub returns-then-not-branch-clause-hears : goal.returns-then-not-branch-clause-hears
returns-then-not-branch-clause-hears g c =
    let takes = c.in_ok-more.ensures.takes in
    let short : length c.line_end.new.self.octets < 512 = rw (← c.waiting.ensures) c.if-waiting-lt-MAX_LINE.true in
    and_then g.W.Wire g.met.W.Wire.leads_on c.loop-length.invariant.3 takes.5 (λ before more.
    reads_end _ _ _ _ _ more.0 takes.2 takes.1 c.loop-length.is_long (rw (← c.line_end.ensures.same) at before)
    c.in_default.ensures.none short (takes.4 (ap Ok c.if-not-branch.true)) (rw c.if-not-branch.true at more.1))

pub loop-length-preserved-then-waiting-lt-MAX_LINE : goal.loop-length-preserved-then-waiting-lt-MAX_LINE
loop-length-preserved-then-waiting-lt-MAX_LINE g c =
    let takes = c.in_ok-more.ensures.takes in
    let same = c.line_end.ensures.same in
    let fewer : length c.more.new.self.octets + 2 * c.more.new.self.left < length c.loop-length.self.octets + 2 * c.loop-length.self.left =
    omega (
      arith,
      takes.3 (ap Ok c.if-not-branch.false),
      takes.1,
      ap length takes.2,
      length-append c.line_end.new.self.octets takes.0,
      ap (λ (w : Waiting). length w.octets) same,
      ap (λ (w : Waiting). w.left) same,
    ) in (
      c.in_ok-more.ensures.counted ∙ c.loop-length.invariant.0,
      omega arith,
      λ is_long. omega arith,
      and_then g.W.Wire g.met.W.Wire.leads_on c.loop-length.invariant.3 takes.5
          (λ before more. reads_more _ _ _ _ _ more.0 takes.2 takes.1 c.loop-length.is_long (rw (← same) at before)),
    )

pub loop-length-smaller : goal.loop-length-smaller
loop-length-smaller g c =
    let long : 512 ≤ length c.line_end.new.self.octets = rw (← c.waiting.ensures) c.if-waiting-lt-MAX_LINE.false in
    rw (c.skip-in-loop-length.ensures, ← c.line_end.ensures.same) (omega (arith, long, length-drop 511 c.line_end.new.self.octets))

pub loop-length-preserved : goal.loop-length-preserved
loop-length-preserved g c =
    let long : 512 ≤ length c.line_end.new.self.octets = rw (← c.waiting.ensures) c.if-waiting-lt-MAX_LINE.false in
    let same = c.line_end.ensures.same in
    let fewer : length c.skip-in-loop-length.new.self.octets + 2 * c.skip-in-loop-length.new.self.left < length
    c.loop-length.self.octets + 2 * c.loop-length.self.left =
    rw (c.skip-in-loop-length.ensures, ← same) (omega (arith, long, length-drop 511 c.line_end.new.self.octets)) in
    let told : (g.W.Wire.history c.if-not-is_long.wire ≡ g.W.Wire.history c.loop-length.wire)
    × (g.W.Wire.sound c.if-not-is_long.wire → g.W.Wire.sound c.loop-length.wire
    × g.W.Wire.leads_to c.loop-length.wire c.if-not-is_long.wire) = elim c.if-not-is_long.branch [
      | then-not-is_long w ↦ rw w.wire-is (w.note.ensures.same, w.note.ensures.kept)
      | else-not-is_long w ↦ rw w.wire-is (refl, λ s. (s, g.met.W.Wire.leads_same c.loop-length.wire))
    ] in (
      ap (λ (link : Link). link.failures) told.0 ∙ c.loop-length.invariant.0,
      omega arith,
      λ _. omega arith,
      λ s.
          let kept = told.1 s in
          let read = c.loop-length.invariant.3 kept.0 in
          let drops = reads_long _ _ _ _ c.loop-length.is_long (rw (← same) at read.2) c.in_default.ensures.none long in
          (read.0, g.met.W.Wire.leads_on _ _ _ read.1 kept.1, rw (told.0, c.skip-in-loop-length.ensures) drops),
    )
