use Rattle.std.proofs.Common.{◌≡◌, ◌++◌, ◌∙◌, ℕ, List, ap, refl, subst, sym, string_bytes}
use Rattle.folder_store.specs.{declared.handles.Handles.{Handles}, Calls.{IsOpenedAt}, HostPaths.{folder_of, path_named}, Under.{front_of}}
use Rattle.folder_store.proofs.Changing.{cuts_answer, cuts_change, keeps_open, still_open}
use Rattle.folder_store.proofs.kept_file.cut_kept.Goals as goal

pub returns-clause-cuts : goal.returns-clause-cuts
returns-clause-cuts g c = λ s.
    let (held, cut) = c.cut_watched-answer.ensures.cuts s in
    let (before, stays, is_open) = c.in_ok-changed.ensures.opens held in (
      before,
      cuts_answer (g.C.FileCalls.tree c.args.calls.now) (g.C.FileCalls.tree c.cut_watched-answer.new.calls)
          (path_named c.args.paths.now c.args.name.now)
          (g.C.File.OpenHandle.opened c.in_ok-changed.changed.file) c.args.len c.cut_watched-answer.result is_open (rw stays at cut),
    )

pub returns-clause-kept : goal.returns-clause-kept
returns-clause-kept g c = keeps_open g.C.FileCalls g.C.File.OpenHandle (folder_of c.args.paths.now) c.args.calls.now
    c.cut_watched-answer.new.calls c.args.handles.now c.keep.new.self c.in_ok-changed.changed c.requires
    (λ s. (c.in_ok-changed.ensures.opens (c.cut_watched-answer.ensures.cuts s).0).0) c.keep.ensures.0
    (c.keep.ensures.1 ∙ ap (λ (h : Handles _). h.names) c.in_ok-changed.ensures.others)
    (λ s.
    let (held, cut) = c.cut_watched-answer.ensures.cuts s in
    let (_, stays, is_open) = c.in_ok-changed.ensures.opens held in
    subst (λ (name : List ℕ). IsOpenedAt (g.C.FileCalls.tree c.cut_watched-answer.new.calls) (front_of (folder_of c.args.paths.now) ++ name)
    (g.C.File.OpenHandle.opened c.in_ok-changed.changed.file)) (sym c.in_ok-changed.ensures.named)
    (still_open (g.C.FileCalls.tree c.args.calls.now) (g.C.FileCalls.tree c.cut_watched-answer.new.calls)
    (path_named c.args.paths.now c.args.name.now)
    (g.C.File.OpenHandle.opened c.in_ok-changed.changed.file) (g.C.File.OpenHandle.opened c.in_ok-changed.changed.file) is_open
    (cuts_change _ _ _ _ c.args.len c.cut_watched-answer.result is_open (rw stays at cut)) refl))
