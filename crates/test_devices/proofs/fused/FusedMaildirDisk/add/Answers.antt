use Rattle.std.proofs.{Common.{refl, arith}, lemmas.Result.err_from_is_err_and}
use Rattle.test_devices.proofs.fused.FusedMaildirDisk.add.Goals as goal

-- nothing was added: the file begun has the bytes that it had
pub returns-in_err-pass-clause-adds : goal.returns-in_err-pass-clause-adds
returns-in_err-pass-clause-adds g c = λ k.
    let refused = err_from_is_err_and c.from_residual.result c.from_residual.ensures.1 in
    let counted = (c.in_err-pass.ensures.sound k.1).1 in
    let was = rw counted at k in
    rw (counted, refused.1) ((was.0, omega (arith, was.1)), λ f begun. (f.content, rw (← begun) refl))
