use Rattle.folder_store.specs.{HostPaths.{folder_of}, Under.{front_of}}
use Rattle.folder_store.proofs.Folder.{names_under}
use Rattle.folder_store.proofs.host.CallsFolderFileFolder.flush_names.Goals as goal

pub returns : goal.returns
returns g c = λ s.
    let done = c.flush_names-answer.ensures.flushes s in (
      done.0,
      rw c.answer_of.ensures.same
          (names_under (folder_of c.args.self.now.paths) (g.C.FileCalls.tree c.args.self.now.calls)
          (g.C.FileCalls.tree c.flush_names-answer.new.calls) _ done.1),
    )
