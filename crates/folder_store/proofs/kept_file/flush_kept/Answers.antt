use Rattle.std.proofs.Common.{◌≡◌, ◌++◌, ◌∙◌, ℕ, List, ap, refl, subst, ⊎_elim, string_bytes}
use Rattle.folder_store.specs.{declared.handles.Handles.{Handles}, Calls.{IsOpenedAt}, HostPaths.{folder_of, path_named}, Under.{front_of}}
use Rattle.folder_store.proofs.Changing.{kept_opens, keeps_none, keeps_open, still_open, syncs_answer, syncs_change}
use Rattle.folder_store.proofs.kept_file.flush_kept.Goals as goal

pub returns-in-Some-clause-flushes : goal.returns-in-Some-clause-flushes
returns-in-Some-clause-flushes g c = λ s.
    let done = c.flush_watched-answer.ensures.flushes s in
    let last = c.in-Some.ensures.last in (
      done.0,
      syncs_answer (g.C.FileCalls.tree c.args.calls.now) (g.C.FileCalls.tree c.flush_watched-answer.new.calls)
          (path_named c.args.paths.now c.args.name.now) (g.C.File.OpenHandle.opened c.in-Some.changed.file) c.flush_watched-answer.result
          (subst (λ (name : List ℕ). IsOpenedAt (g.C.FileCalls.tree c.args.calls.now) (front_of (folder_of c.args.paths.now) ++ name)
          (g.C.File.OpenHandle.opened c.in-Some.changed.file)) last.1
          (kept_opens g.C.FileCalls g.C.File.OpenHandle (folder_of c.args.paths.now) c.args.calls.now c.args.handles.now
          c.in-Some.changed c.requires last.0 done.0)) done.1,
    )

pub returns-in-Some-clause-kept : goal.returns-in-Some-clause-kept
returns-in-Some-clause-kept g c =
    let last = c.in-Some.ensures.last in
    let names = ap (λ (h : Handles _). h.names) c.take_changed.ensures.taken in
    ⊎_elim (λ closed. keeps_none g.C.FileCalls g.C.File.OpenHandle (folder_of c.args.paths.now) c.args.calls.now
    c.flush_watched-answer.new.calls c.args.handles.now c.keep_flushed.new.self c.requires
    (λ s. (c.flush_watched-answer.ensures.flushes s).0) closed (c.keep_flushed.ensures.1 ∙ names))
    (λ is. keeps_open g.C.FileCalls g.C.File.OpenHandle (folder_of c.args.paths.now) c.args.calls.now
    c.flush_watched-answer.new.calls c.args.handles.now c.keep_flushed.new.self c.in-Some.changed c.requires
    (λ s. (c.flush_watched-answer.ensures.flushes s).0) is (c.keep_flushed.ensures.1 ∙ names)
    (λ s.
    let done = c.flush_watched-answer.ensures.flushes s in
    let first = kept_opens g.C.FileCalls g.C.File.OpenHandle (folder_of c.args.paths.now) c.args.calls.now c.args.handles.now
    c.in-Some.changed c.requires last.0 done.0 in
    still_open (g.C.FileCalls.tree c.args.calls.now) (g.C.FileCalls.tree c.flush_watched-answer.new.calls)
    (front_of (folder_of c.args.paths.now) ++ string_bytes c.in-Some.changed.name) (g.C.File.OpenHandle.opened c.in-Some.changed.file)
    (g.C.File.OpenHandle.opened c.in-Some.changed.file) first
    (syncs_change _ _ _ _ c.flush_watched-answer.result first done.1) refl))
    c.keep_flushed.ensures.0

pub returns-in-None-clause-kept : goal.returns-in-None-clause-kept
returns-in-None-clause-kept g c = keeps_none g.C.FileCalls g.C.File.OpenHandle (folder_of c.args.paths.now) c.args.calls.now
    c.flush_anew.new.calls c.args.handles.now c.flush_anew.new.handles c.requires
    (λ s. (c.flush_anew.ensures.flushes s).0)
    (c.flush_anew.ensures.others.0 ∙ ap (λ (h : Handles _). h.changed) c.take_changed.ensures.taken)
    (c.flush_anew.ensures.others.1 ∙ ap (λ (h : Handles _). h.names) c.take_changed.ensures.taken)
