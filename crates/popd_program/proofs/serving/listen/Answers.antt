use Rattle.std.proofs.{Common.{inr}, lemmas.Result.{err_from_is_err_and}}
use Rattle.popd_program.proofs.serving.listen.Goals as goal

pub returns-in_err-check_maildir-clause-err : goal.returns-in_err-check_maildir-clause-err
returns-in_err-check_maildir-clause-err g c =
    let p = err_from_is_err_and c.from_residual-in_err-check_maildir.result c.from_residual-in_err-check_maildir.ensures.1 in
    rw (p.1, p.2) (inr c.in_err-check_maildir.ensures.told)
