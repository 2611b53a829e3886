use Rattle.std.proofs.Common.{◌≡◌, ◌++◌, ◌∙◌, ℕ, List, ap, refl, subst, sym, string_bytes}
use Rattle.folder_store.specs.{declared.handles.Handles.{Handles}, Calls.{IsOpenedAt}, HostPaths.{folder_of, path_named}, Under.{front_of}}
use Rattle.folder_store.proofs.Changing.{appends_answer, appends_change, keeps_open, still_open}
use Rattle.folder_store.proofs.kept_file.append_kept.Goals as goal

pub returns-clause-appends : goal.returns-clause-appends
returns-clause-appends g c = λ s.
    let (held, (_, _, wrote)) = c.append_watched-answer.ensures.appends s in
    let (before, stays, is_open) = c.in_ok-changed.ensures.opens held in (
      before,
      appends_answer (g.C.FileCalls.tree c.args.calls.now) (g.C.FileCalls.tree c.append_watched-answer.new.calls)
          (path_named c.args.paths.now c.args.name.now)
          (g.C.File.OpenHandle.opened c.in_ok-changed.changed.file) c.args.bytes.now c.append_watched-answer.result is_open
          (rw stays at wrote),
    )

pub returns-clause-kept : goal.returns-clause-kept
returns-clause-kept g c = keeps_open g.C.FileCalls g.C.File.OpenHandle (folder_of c.args.paths.now) c.args.calls.now
    c.append_watched-answer.new.calls c.args.handles.now c.keep.new.self c.append_watched-answer.new.changed c.requires
    (λ s. (c.in_ok-changed.ensures.opens (c.append_watched-answer.ensures.appends s).0).0) c.keep.ensures.0
    (c.keep.ensures.1 ∙ ap (λ (h : Handles _). h.names) c.in_ok-changed.ensures.others)
    (λ s.
    let (held, (place, title, wrote)) = c.append_watched-answer.ensures.appends s in
    let (_, stays, is_open) = c.in_ok-changed.ensures.opens held in
    subst (λ (name : List ℕ). IsOpenedAt (g.C.FileCalls.tree c.append_watched-answer.new.calls)
    (front_of (folder_of c.args.paths.now) ++ name)
    (g.C.File.OpenHandle.opened c.append_watched-answer.new.changed.file)) (sym (ap string_bytes title ∙ c.in_ok-changed.ensures.named))
    (still_open (g.C.FileCalls.tree c.args.calls.now) (g.C.FileCalls.tree c.append_watched-answer.new.calls)
    (path_named c.args.paths.now c.args.name.now)
    (g.C.File.OpenHandle.opened c.in_ok-changed.changed.file) (g.C.File.OpenHandle.opened c.append_watched-answer.new.changed.file)
    is_open
    (appends_change _ _ _ _ c.args.bytes.now c.append_watched-answer.result is_open (rw stays at wrote)) place))
