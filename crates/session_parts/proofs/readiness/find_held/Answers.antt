use Rattle.std.proofs.Common.{refl, sym, ◌∙◌}
use Rattle.session_parts.proofs.TalkLemmas.{err_is}
use Rattle.mail_store.proofs.MaildirLemmas.{none_taken}
use Rattle.session_parts.proofs.readiness.find_held.Goals as goal

pub returns-clause-finds : goal.returns-clause-finds
returns-clause-finds g c = λ d.
    let (sound, (left, taken, ((flags, same, _, _, named, told), durable))) = c.in_ok-held.ensures.finds d in (
      sound,
      (
        left,
        taken,
        (
          rw (c.deref.ensures.value, c.in_ok-flags.ensures) at flags,
          refl,
          same,
          (named, rw (c.deref.ensures.value, c.in_ok-flags.ensures, same) at durable),
          rw same at (c.in_ok-odd.ensures.flags d (rw same told)),
        ),
      ),
    )

pub returns-in_err-odd-clause-finds : goal.returns-in_err-odd-clause-finds
returns-in_err-odd-clause-finds g c = rw (err_is c.from_residual-in_err-odd.ensures.1) (λ d.
    let (sound, (left, taken, (finds, _))) = c.in_ok-held.ensures.finds d in
    (sound, (left, taken, finds.1)))

pub returns-clause-flags : goal.returns-clause-flags
returns-clause-flags g c = (sym c.in_ok-held.held.ok.0 ∙ c.in_ok-held.ensures.length, (c.in_ok-odd.ensures.by_ids, tt))

pub returns-in_err-flags-clause-finds : goal.returns-in_err-flags-clause-finds
returns-in_err-flags-clause-finds g c = rw (err_is c.from_residual.ensures.1) (λ d.
    let maildir = g.D.MaildirDisk.maildir c.args.disk.now in
    (d, (maildir, none_taken maildir, refl)))
