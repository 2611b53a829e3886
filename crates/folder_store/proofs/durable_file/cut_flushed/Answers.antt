use Rattle.std.proofs.{Common.inl, lemmas.Result.err_from_is_err_and}
use Rattle.mail_store.specs.DiskCalls.{cut}
use Rattle.folder_store.proofs.Files.{flushed_becomes, refused_becomes}
use Rattle.folder_store.proofs.durable_file.cut_flushed.Goals as goal

pub returns-in_err-cut_to : goal.returns-in_err-cut_to
returns-in_err-cut_to g c = rw (err_from_is_err_and c.from_residual.result c.from_residual.ensures.1).1 (λ s.
    let t = c.in_err-cut_to.ensures s in
    (t.0, refused_becomes (λ b d is. inl is) _ _ _ t.1))

pub returns : goal.returns
returns g c = λ s.
    let flush = c.flush.ensures s in
    let t = c.in_ok-cut_to.ensures flush.0 in
    (t.0, flushed_becomes (λ b. cut b c.args.len) _ (λ b d is. is) _ _ _ _ c.flush.result t.1 flush.1)
