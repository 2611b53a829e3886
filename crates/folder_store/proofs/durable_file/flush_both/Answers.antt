use Rattle.std.proofs.lemmas.Result.{err_from_is_err_and}
use Rattle.folder_store.proofs.Files.{both_flushed, both_refused}
use Rattle.folder_store.proofs.durable_file.flush_both.Goals as goal

pub returns-in_err-flush : goal.returns-in_err-flush
returns-in_err-flush g c = rw (err_from_is_err_and c.from_residual.result c.from_residual.ensures.1).1 (λ s.
    let t = c.in_err-flush.ensures s in (
      t.0,
      both_refused (g.F.FolderState.directory c.args.folder.now) (g.F.FolderState.directory c.flush.new.self)
          c.args.name.now c.in_err-flush.field-0.0 t.1,
    ))

pub returns : goal.returns
returns g c = λ s.
    let names = c.flush_names.ensures s in
    let t = c.in_ok-flush.ensures names.0 in (
      t.0,
      both_flushed (g.F.FolderState.directory c.args.folder.now) (g.F.FolderState.directory c.flush.new.self)
          (g.F.FolderState.directory c.flush_names.new.self) c.args.name.now c.flush_names.result t.1 names.1,
    )
