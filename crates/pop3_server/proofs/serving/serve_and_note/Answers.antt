use Rattle.std.proofs.{Common.{◌≡◌, true, None, refl, sym, subst, ◌∙◌}, lemmas.Bool.{not-true, not-false}}
use Rattle.pop3_server.{
  specs.{declared.fault.ServerFault.TheVariants.WriteFailed, ServerMachine.is_open, AnswersLines.MakesAnswer},
  proofs.ServeLemmas.{greeted, served_unmade, served_ungreeted, served_stopped, served_closed, progress_line, long_turn, line_came},
}
use Rattle.pop3_wire.proofs.LinkLemmas.{and_then_two}
use Rattle.mail_terms.proofs.ErrLemmas.{err_is}
use Rattle.pop3_server.proofs.serving.serve_and_note.Goals as goal

pub returns-in_err-hello-clause-served : goal.returns-in_err-hello-clause-served
returns-in_err-hello-clause-served g c =
    rw (err_is c.from_residual.ensures.1) (λ s. (
      s,
      g.met.W.Wire.leads_same c.args.wire.now,
      rw c.in_err-hello.ensures.err (served_unmade _ _ _ _ c.greeting.new.self c.greeting.ensures.same),
    ))

pub returns-in_err-send-clause-served : goal.returns-in_err-send-clause-served
returns-in_err-send-clause-served g c =
    rw (err_is c.from_residual-in_err-send.ensures.1) (λ s.
    let (before, on, (front, rest, split, sent)) = c.in_err-send.ensures.sends s in (
      before,
      on,
      rw c.in_err-send.ensures.err (served_ungreeted _ _ _ _ c.greeting.new.self _ c.as_slice.result.now front
          rest c.greeting.ensures.same (c.as_slice.ensures.value ∙ c.in_ok-hello.ensures.ok.0) split sent),
    ))

pub loop-hello-init : goal.loop-hello-init
loop-hello-init g c = (
  c.in_ok-send.ensures.counted,
  rw c.greeting.ensures.same c.requires,
  rw c.greeting.ensures.same refl,
  λ s.
      let sent = c.in_ok-send.ensures.sends s in (
        sent.0,
        sent.1,
        greeted _ _ _ _ c.greeting.new.self _ c.new-intake.result c.as_slice.result.now
            c.greeting.ensures.same (c.as_slice.ensures.value ∙ c.in_ok-hello.ensures.ok.0) sent.2 c.new-intake.ensures,
      ),
)

pub returns-in_err-send-in-LongLine-clause-served : goal.returns-in_err-send-in-LongLine-clause-served
returns-in_err-send-in-LongLine-clause-served g c =
    rw (err_is c.from_residual-in_err-send-in-LongLine.ensures.1)
    (and_then_two g.W.Wire g.met.W.Wire.leads_on c.loop-hello.invariant.3 c.in_ok-next.ensures.hears
    c.in_err-send-in-LongLine.ensures.sends (λ p came sent.
    let heard = rw c.in-LongLine.is at came in
    let turn = long_turn g.D.Maildrop.sound g.D.Maildrop.mail c.loop-hello.server heard.1 c.loop-hello.invariant.1 heard.5 in
    rw c.in_err-send-in-LongLine.ensures.err (served_stopped p (record { gained = heard.0; took = heard.2; takes = heard.3; is = heard.4 })
    c.loop-hello.server _ WriteFailed (
      sent.0,
      sent.1,
      None,
      subst (λ l. MakesAnswer g.D.Maildrop.sound g.D.Maildrop.mail c.loop-hello.server heard.1 l None c.loop-hello.server) sent.2 turn,
      sent.3,
    ))))

pub loop-hello-preserved-in-Continue-branch-5 : goal.loop-hello-preserved-in-Continue-branch-5
loop-hello-preserved-in-Continue-branch-5 g c = (
  c.in_ok-send-in-LongLine.ensures.counted ∙ c.in_ok-next.ensures.counted ∙ c.loop-hello.invariant.0,
  c.loop-hello.invariant.1,
  c.loop-hello.invariant.2,
  and_then_two g.W.Wire g.met.W.Wire.leads_on c.loop-hello.invariant.3 c.in_ok-next.ensures.hears
      c.in_ok-send-in-LongLine.ensures.sends (λ p came sent.
      let heard = rw c.in-LongLine.is at came in
      progress_line p (record { gained = heard.0; took = heard.2; takes = heard.3; is = heard.4 }) c.loop-hello.server _ _
      (long_turn g.D.Maildrop.sound g.D.Maildrop.mail c.loop-hello.server heard.1 c.loop-hello.invariant.1 heard.5) sent),
)

pub returns-in_err-closing-in-Line-clause-served : goal.returns-in_err-closing-in-Line-clause-served
returns-in_err-closing-in-Line-clause-served g c =
    rw (err_is c.from_residual-in_err-closing-in-Line.ensures.1)
    (and_then_two g.W.Wire g.met.W.Wire.leads_on c.loop-hello.invariant.3 c.in_ok-next.ensures.hears
    c.in_err-closing-in-Line.ensures.answers (λ p came went.
    served_stopped p (line_came (rw c.in-Line.is at came) c.waiting.ensures refl) c.answer_line.new.server _
    c.in_err-closing-in-Line.field-0.0 went))

pub returns-then-closing-clause-served : goal.returns-then-closing-clause-served
returns-then-closing-clause-served g c = and_then_two g.W.Wire g.met.W.Wire.leads_on c.loop-hello.invariant.3
    c.in_ok-next.ensures.hears c.in_ok-closing-in-Line.ensures.answers (λ p came went.
    served_closed (progress_line p (line_came (rw c.in-Line.is at came) c.waiting.ensures c.skip.ensures)
    c.answer_line.new.server _ went.0 went.1 went.2)
    (not-true (is_open c.answer_line.new.server.state) (sym c.in_ok-closing-in-Line.ensures.closing ∙ c.if-closing.true)))

pub loop-hello-preserved : goal.loop-hello-preserved
loop-hello-preserved g c =
    let opened : is_open c.answer_line.new.server.state ≡ true = not-false (is_open c.answer_line.new.server.state)
    (sym c.in_ok-closing-in-Line.ensures.closing ∙ c.if-closing.false) in (
      c.in_ok-closing-in-Line.ensures.counted ∙ c.in_ok-next.ensures.counted ∙ c.loop-hello.invariant.0,
      opened,
      c.in_ok-closing-in-Line.ensures.removals opened ∙ c.loop-hello.invariant.2,
      and_then_two g.W.Wire g.met.W.Wire.leads_on c.loop-hello.invariant.3 c.in_ok-next.ensures.hears
          c.in_ok-closing-in-Line.ensures.answers (λ p came went.
          progress_line p (line_came (rw c.in-Line.is at came) c.waiting.ensures c.skip.ensures)
          c.answer_line.new.server _ went.0 went.1 went.2),
    )
