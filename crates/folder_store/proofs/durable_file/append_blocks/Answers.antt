use Rattle.std.proofs.{Common.{◌++◌, Err, append_assoc}, lemmas.Result.err_from_is_err_and}
use Rattle.mail_store.proofs.DiskLemmas.{front_of_all}
use Rattle.folder_store.{specs.PowerLoss.disk_at, proofs.Files.{later_refused, later_done, in_parts}}
use Rattle.folder_store.proofs.durable_file.append_blocks.Goals as goal

pub returns-in_err-append_flushed : goal.returns-in_err-append_flushed
returns-in_err-append_flushed g c =
    let p = err_from_is_err_and c.from_residual-in_err-append_flushed.result c.from_residual-in_err-append_flushed.ensures.1 in
    rw p.1 (λ s.
    let (held, piece) = c.in_err-append_flushed.ensures s in
    let (before, (_, stays)) = c.in_ok-size.ensures held in
    let front = c.split_at.result.0.now in (
      before,
      front_of_all {T = Unit {0}} (Unit {0}) (disk_at (g.F.FolderState.directory c.args.folder.now) c.args.name.now) _
          _ front _ (Err p.0) p.0 (in_parts _ front _ _ c.split_at.ensures.front c.split_at.ensures.back) (rw stays at piece),
    ))

pub returns-in_err-append_flushed-2 : goal.returns-in_err-append_flushed-2
returns-in_err-append_flushed-2 g c =
    let p = err_from_is_err_and c.from_residual-in_err-append_flushed-2.result c.from_residual-in_err-append_flushed-2.ensures.1 in
    rw p.1 (λ s.
    let piece = c.in_err-append_flushed-2.ensures s in
    let done = c.loop-rest.invariant in
    let before = done.2 piece.0 in (
      before.0,
      later_refused (disk_at (g.F.FolderState.directory c.args.folder.now) c.args.name.now)
          (disk_at (g.F.FolderState.directory c.loop-rest.folder) c.args.name.now) _ _ done.0 _ _ p.0 _ done.1
          (in_parts _ _ _ _ c.split_at-in-loop-rest.ensures.front c.split_at-in-loop-rest.ensures.back) before.1 piece.1,
    ))

pub loop-rest-preserved : goal.loop-rest-preserved
loop-rest-preserved g c =
    let done = c.loop-rest.invariant in
    let page = c.split_at-in-loop-rest.result.0.now in
    let after = c.split_at-in-loop-rest.result.1.now in (
      done.0 ++ page,
      rw (
        append_assoc done.0 page after,
        ← in_parts _ page after _ c.split_at-in-loop-rest.ensures.front c.split_at-in-loop-rest.ensures.back,
      ) done.1,
      λ s. let piece = c.in_ok-append_flushed-2.ensures s in
          let before = done.2 piece.0 in (
            before.0,
            later_done (disk_at (g.F.FolderState.directory c.args.folder.now) c.args.name.now)
                (disk_at (g.F.FolderState.directory c.loop-rest.folder) c.args.name.now) _ done.0 page before.1 piece.1,
          ),
    )
