use Rattle.std.proofs.Common.{ap, refl, sym, ◌∙◌}
use Rattle.session_parts.{proofs.TalkLemmas.err_is, specs.Target.in_maildir}
use Rattle.session_parts.proofs.preview.look_at_maildir.Goals as goal

pub returns-clause-flags : goal.returns-clause-flags
returns-clause-flags g c = (sym c.in_ok-held.held.ok.0 ∙ c.in_ok-held.ensures.length, (c.in_ok-odd.ensures.by_ids, tt))

pub returns-clause-looks : goal.returns-clause-looks
returns-clause-looks g c = λ d.
    let (sound, (left, taken, (flags, same, _, _, _, told))) = c.in_ok-held.ensures.finds d in
    (sound, (left, taken, (flags, refl, ap in_maildir same, rw same at (c.in_ok-odd.ensures.flags d (rw same told)))))

pub returns-in_err-odd-clause-looks : goal.returns-in_err-odd-clause-looks
returns-in_err-odd-clause-looks g c = rw (err_is c.from_residual-in_err-odd.ensures.1) (λ d.
    let (sound, (left, taken, is)) = c.in_ok-held.ensures.finds d in
    (sound, (left, taken, is.1)))
