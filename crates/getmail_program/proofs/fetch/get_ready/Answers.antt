use Rattle.std.proofs.Common.{inl, inr, refl}
use Rattle.std.proofs.lemmas.Result.{err_from_is_err_and}
use Rattle.getmail_setup.specs.declared.failure.Failure.TheVariants.{AtWork}
use Rattle.getmail_program.proofs.fetch.get_ready.Goals as goal

pub returns-in_err-setup-clause-err : goal.returns-in_err-setup-clause-err
returns-in_err-setup-clause-err g c =
    let p = err_from_is_err_and c.from_residual.result c.from_residual.ensures.1 in
    rw (p.1, p.2) (c.new-files.result, c.in_err-setup.ensures.err)

pub returns-in-Err-clause-err : goal.returns-in-Err-clause-err
returns-in-Err-clause-err g c =
    let (home, is_set_up) = c.in_ok-setup.ensures.ok in (
      c.new-files.result,
      (home, inr (c.in_ok-setup.setup, is_set_up, inr (c.in-Err.failure, c.fail.ensures.status))),
    )

pub returns-then-leaves_to_other-clause-err : goal.returns-then-leaves_to_other-clause-err
returns-then-leaves_to_other-clause-err g c =
    let (home, is_set_up) = c.in_ok-setup.ensures.ok in (
      c.new-files.result,
      (
        home,
        inr (
          c.in_ok-setup.setup,
          is_set_up,
          inl (c.leaves_to_other.ensures.asked c.if-leaves_to_other.true, refl),
        ),
      ),
    )

pub returns-in-Elsewhere-clause-err : goal.returns-in-Elsewhere-clause-err
returns-in-Elsewhere-clause-err g c =
    let (home, is_set_up) = c.in_ok-setup.ensures.ok in (
      c.new-files.result,
      (home, inr (c.in_ok-setup.setup, is_set_up, inr (AtWork, c.fail-in-Elsewhere.ensures.status))),
    )

pub returns-clause-ok : goal.returns-clause-ok
returns-clause-ok g c =
    let (home, is_set_up) = c.in_ok-setup.ensures.ok in (c.new-files.result, home, is_set_up)
