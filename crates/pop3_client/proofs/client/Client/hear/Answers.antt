use Rattle.pop3_client.proofs.TalkLemmas.{heard_none, heard_refused, heard_bad}
use Rattle.pop3_wire.proofs.LinkLemmas.{in_words, and_then}
use Rattle.mail_terms.proofs.ErrLemmas.{err_is}
use Rattle.pop3_client.proofs.client.Client.hear.Goals as goal

pub returns-in_err-length-clause-heard : goal.returns-in_err-length-clause-heard
returns-in_err-length-clause-heard g c =
    rw (err_is c.from_residual.ensures.1) (in_words g.W.Wire c.in_err-length.ensures.waits
    (λ ((_, gains), none) turn names. heard_none c.in_err-length.field-0.0 gains none))

pub returns-in-Ok-Positive-default-clause-heard : goal.returns-in-Ok-Positive-default-clause-heard
returns-in-Ok-Positive-default-clause-heard g c =
    let first = rw (c.in-Ok-Positive-default.field-0-0-is, c.waiting.ensures.value) at c.in-Ok-Positive-default.ensures.ok in
    in_words g.W.Wire c.in_ok-length.ensures.waits
    (λ ((gained, gains), (has, on)) turn names. (gained, gains, has, on, (c.in-Ok-Positive-default.field-0-1.now, first)))

pub returns-in-Ok-Positive-default-clause-positive : goal.returns-in-Ok-Positive-default-clause-positive
returns-in-Ok-Positive-default-clause-positive g c = (
  c.in-Ok-Positive-default.field-0-1.now,
  rw (c.in-Ok-Positive-default.field-0-0-is, c.waiting.ensures.value) at c.in-Ok-Positive-default.ensures.ok,
)

pub returns-in-Ok-Negative-default-clause-heard : goal.returns-in-Ok-Negative-default-clause-heard
returns-in-Ok-Negative-default-clause-heard g c =
    let first = rw (c.in-Ok-Negative-default.field-0-0-is, c.waiting.ensures.value) at c.in-Ok-Negative-default.ensures.ok in
    and_then g.W.Wire g.met.W.Wire.leads_on c.in_ok-length.ensures.waits c.tell.ensures.kept
    (λ ((_, gains), (has, _)) same turn names. rw (same, c.skip.ensures)
    (heard_refused gains has turn c.args.asked c.in-Ok-Negative-default.field-0-1.now names first))

pub returns-in-Err-clause-heard : goal.returns-in-Err-clause-heard
returns-in-Err-clause-heard g c =
    in_words g.W.Wire c.in_ok-length.ensures.waits
    (λ ((_, gains), (has, _)) turn names. heard_bad gains has turn (rw c.waiting.ensures.value at c.in-Err.ensures.err.1))
