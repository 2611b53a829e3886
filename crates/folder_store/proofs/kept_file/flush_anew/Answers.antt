use Rattle.std.proofs.Common.{Err}
use Rattle.folder_store.specs.HostPaths.{path_named}
use Rattle.folder_store.proofs.Changing.{syncs_answer, syncs_whatever}
use Rattle.folder_store.proofs.kept_file.flush_anew.Goals as goal

pub returns-in-Ok-clause-flushes : goal.returns-in-Ok-clause-flushes
returns-in-Ok-clause-flushes g c = λ s.
    let done = c.in-Ok.ensures s in
    let first = c.in_ok-file.ensures done.0 in (
      first.0,
      syncs_answer (g.C.FileCalls.tree c.args.calls.now) (g.C.FileCalls.tree c.fsync.new.self) (path_named c.args.paths.now c.args.name.now)
          (g.C.File.OpenHandle.opened c.in_ok-file.file) c.flush_links.result first.2
          (syncs_whatever _ _ _ (tt {0}) c.flush_links.result (rw first.1 at done.1)),
    )

pub returns-clause-flushes : goal.returns-clause-flushes
returns-clause-flushes g c = λ s.
    let done = c.in-Err.ensures s in
    let first = c.in_ok-file.ensures done.0 in (
      first.0,
      syncs_answer {T = Unit {0}} (g.C.FileCalls.tree c.args.calls.now) (g.C.FileCalls.tree c.fsync.new.self)
          (path_named c.args.paths.now c.args.name.now) (g.C.File.OpenHandle.opened c.in_ok-file.file) (Err c.in-Err.fault) first.2
          (rw first.1 at done.1),
    )
