use Rattle.std.proofs.Common.{refl}
use Rattle.folder_store.proofs.Changing.{appends_failed}
use Rattle.folder_store.proofs.kept_file.append_watched.Goals as goal

pub returns-in-Err-clause-appends : goal.returns-in-Err-clause-appends
returns-in-Err-clause-appends g c = λ s.
    let (after_write, noted) = c.note_watched.ensures.same s in
    let (after_check, (opened, wrote)) = c.append_counted-count.ensures.appends after_write in
    let (before, checked) = c.in_ok-check_watched.ensures.same after_check in (
      before,
      (opened, refl, appends_failed _ _ _ _ _ _ c.append_counted-count.result.1 checked noted wrote),
    )
