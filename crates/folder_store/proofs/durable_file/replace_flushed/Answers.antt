use Rattle.std.proofs.lemmas.Result.{err_from_is_err_and}
use Rattle.folder_store.proofs.Files.{not_replaced, replaced}
use Rattle.folder_store.proofs.durable_file.replace_flushed.Goals as goal

pub returns-in_err-put : goal.returns-in_err-put
returns-in_err-put g c =
    let p = err_from_is_err_and c.from_residual-in_err-put.result c.from_residual-in_err-put.ensures.1 in
    rw p.1 (λ s.
    let put = c.in_err-put.ensures s in
    let (before, stays, makes) = c.in_ok-file.ensures.makes put.0 in (
      before,
      not_replaced _ _ _ _ _ _ c.in_err-put.field-0.0 p.0
          (λ sound. let done = c.in_default.ensures sound in rw (makes done.0).1 at done.1) (rw stays at put.1),
    ))

pub returns : goal.returns
returns g c = λ s.
    let names = c.flush_names.ensures s in
    let put = c.in_ok-put.ensures names.0 in
    let filled = c.in_default.ensures put.1.0 in
    let (before, stays, makes) = c.in_ok-file.ensures.makes put.0 in
    (before, replaced _ _ _ _ _ _ c.flush_names.result (rw (makes filled.0).1 at filled.1) (rw stays at put.1.1) names.1)
