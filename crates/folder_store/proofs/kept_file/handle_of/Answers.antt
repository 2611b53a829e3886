use Rattle.std.proofs.Common.{◌≡◌, ◌++◌, refl, subst, ℕ, List}
use Rattle.folder_store.specs.{Calls.{IsOpenedAt}, HostPaths.{folder_of}, Under.{front_of}}
use Rattle.folder_store.proofs.Changing.{kept_opens}
use Rattle.folder_store.proofs.kept_file.handle_of.Goals as goal

pub returns-in-Some-clause-opens : goal.returns-in-Some-clause-opens
returns-in-Some-clause-opens g c = λ s.
    let kept = c.in-Some.ensures.kept in (
      s,
      refl,
      subst (λ (name : List ℕ). IsOpenedAt (g.C.FileCalls.tree c.args.calls.now) (front_of (folder_of c.args.paths.now) ++ name)
          (g.C.File.OpenHandle.opened c.in-Some.changed.file)) kept.1
          (kept_opens g.C.FileCalls g.C.File.OpenHandle (folder_of c.args.paths.now) c.args.calls.now c.args.handles.now
          c.in-Some.changed c.requires kept.0 s),
    )
