use Rattle.std.proofs.Common.{◌∙◌, ap}
use Rattle.folder_store.specs.{declared.handles.Handles.{Handles}, Calls.{Tree}, HostPaths.{folder_of}}
use Rattle.folder_store.proofs.Changing.{keeps_names}
use Rattle.folder_store.proofs.kept_file.sync_names.Goals as goal

pub returns-in-Ok-fsync_folder-clause-kept : goal.returns-in-Ok-fsync_folder-clause-kept
returns-in-Ok-fsync_folder-clause-kept g c = keeps_names g.C.FileCalls g.C.File.OpenHandle (folder_of c.args.paths.now)
    c.args.calls.now c.fsync_folder.new.self c.args.handles.now c.keep_names.new.self c.in-Ok.names c.requires
    (λ s.
    let (mid, synced) = c.in-Ok-fsync_folder.ensures s in
    let (held, stays, (path, _)) = c.in-Ok.ensures.opens mid in (
      held,
      ap (λ (t : Tree). t.turn) synced ∙ ap (λ (t : Tree). t.turn) stays,
      ap (λ (t : Tree). t.directory.entries) synced ∙ ap (λ (t : Tree). t.directory.entries) stays,
      path,
    ))
    (ap (λ (h : Handles _). h.changed) c.keep_names.ensures ∙ ap (λ (h : Handles _). h.changed) c.in-Ok.ensures.others)
    (ap (λ (h : Handles _). h.names) c.keep_names.ensures) c.in-Ok.ensures.which
