use Rattle.std.proofs.{Common.inl, lemmas.Result.err_from_is_err_and}
use Rattle.folder_store.proofs.{MailCalls.{not_put, put_all}, MailMoves.moved_rests}
use Rattle.folder_store.proofs.durable_names.put_durably.Goals as goal

pub returns-in-Err : goal.returns-in-Err
returns-in-Err g c = λ s.
    let gone = c.discard.ensures s in
    (gone.0, ((c.in-Err.ensures gone.1).0, inl (moved_rests _ _ gone.2)))

pub returns-in_err-put : goal.returns-in_err-put
returns-in_err-put g c =
    let p = err_from_is_err_and c.from_residual.result c.from_residual.ensures.1 in
    rw p.1 (λ s.
    let put = c.in_err-put.ensures s in
    let t = c.in_default.ensures put.1 in
    (put.0, (t.0, not_put _ _ _ _ _ c.in_err-put.field-0.0 p.0 t.1 put.2)))

pub returns : goal.returns
returns g c = λ s.
    let names = c.flush_names.ensures.flushes s in
    let put = c.in_ok-put.ensures names.0 in
    let t = c.in_default.ensures put.1 in
    (put.0, (t.0, put_all _ _ _ _ _ t.1 put.2 _ c.flush_names.result names.1))
