use Rattle.std.proofs.Common.{rules, [], ◌++◌, append_assoc}
use Rattle.pop3_wire.proofs.LinkLemmas.{and_then}
use Rattle.mail_terms.proofs.ErrLemmas.{err_is}
use Rattle.pop3_server.proofs.serving.answer_line.Goals as goal

pub returns-in_err-send-clause-answers : goal.returns-in_err-send-clause-answers
returns-in_err-send-clause-answers g c =
    let before = c.loop-bytes.invariant.3 in
    rw (err_is c.from_residual-in_err-send.ensures.1) (and_then g.W.Wire g.met.W.Wire.leads_on before.2 c.in_err-send.ensures.sends
    (λ link sent. rw c.in_err-send.ensures.err (
      before.0 ++ sent.0,
      sent.1,
      c.loop-bytes.rest,
      rw (append_assoc before.0, ← sent.2, c.as_slice.ensures.value) before.1,
      rw (link, append_assoc) at sent.3,
    )))

pub returns-in_err-rest-clause-answers : goal.returns-in_err-rest-clause-answers
returns-in_err-rest-clause-answers g c =
    let before = c.loop-bytes.invariant.3 in
    let fault = c.in_err-rest.ensures.err in
    rw (err_is c.from_residual-in_err-rest.ensures.1)
    (and_then g.W.Wire g.met.W.Wire.leads_on before.2 c.in_ok-send.ensures.sends (λ link sent. rw fault.0 (
      before.0 ++ c.loop-bytes.bytes.items,
      c.in-Some-rest.text,
      c.loop-bytes.server,
      rw c.in-Some-rest.is at before.1,
      fault.1,
      rw (link, append_assoc, c.as_slice.ensures.value) at sent,
    )))

pub loop-bytes-init : goal.loop-bytes-init
loop-bytes-init g c = (search rules, search rules, search rules, ([], search rules, search rules))

pub loop-bytes-preserved : goal.loop-bytes-preserved
loop-bytes-preserved g c =
    let before = c.loop-bytes.invariant.3 in (
      search rules,
      search rules,
      search rules,
      (
        before.0 ++ c.loop-bytes.bytes.items,
        search rules,
        and_then g.W.Wire g.met.W.Wire.leads_on before.2 c.in_ok-send.ensures.sends
            (λ link sent. rw (link, append_assoc, c.as_slice.ensures.value) at sent),
      ),
    )
