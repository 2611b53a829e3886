use Rattle.std.proofs.{Common.{[], append-nil, inl, sym}, lemmas.Result.err_from_is_err_and}
use Rattle.mail_store.{specs.{Durable.Blob, DiskCalls.appended}, proofs.DiskLemmas.one_piece}
use Rattle.folder_store.proofs.Files.{flushed_becomes, refused_becomes}
use Rattle.folder_store.proofs.durable_file.append_flushed.Goals as goal

pub returns-in_err-append : goal.returns-in_err-append
returns-in_err-append g c = rw (err_from_is_err_and c.from_residual.result c.from_residual.ensures.1).1 (λ s.
    let t = c.in_err-append.ensures s in
    (t.0, refused_becomes (λ b d is. one_piece c.args.bytes.now is.0 is.1 b d is.2 (inl is.3)) _ _ _ t.1))

pub returns : goal.returns
returns g c = λ s.
    let flush = c.flush.ensures s in
    let t = c.in_ok-append.ensures flush.0 in
    let bytes = c.args.bytes.now in
    let whole = λ (b d : Blob). one_piece bytes bytes [] b d (sym (append-nil bytes)) in
    (t.0, flushed_becomes (λ b. appended b bytes) _ whole _ _ _ _ c.flush.result t.1 flush.1)
