use Rattle.folder_store.proofs.Sharing.{opened_then}
use Rattle.folder_store.proofs.listed_names.open_file.Goals as goal

pub returns-then-eq : goal.returns-then-eq
returns-then-eq g c = λ s.
    let done = c.shut.ensures s in
    let first = c.in-Ok.ensures done.0 in
    let then = opened_then c.args.folder c.args.name.now c.shut.result _ _ _ first.1 done.1 done.2 in
    (first.0, then.0, then.1)

pub returns-in-Err : goal.returns-in-Err
returns-in-Err g c = λ s.
    let done = c.refused.ensures s in
    let first = c.in-Err.ensures done.0 in
    let then = opened_then c.args.folder c.args.name.now c.refused.result _ _ _ first.1 done.1 done.2 in
    (first.0, then.0, then.1)
