use Rattle.folder_store.specs.{HostPaths.{folder_of}, Under.{front_of}}
use Rattle.folder_store.proofs.Folder.{sizes_under}
use Rattle.folder_store.proofs.host.CallsFolderFileFolder.size.Goals as goal

pub returns : goal.returns
returns g c = λ s.
    let done = c.size_of-answer.ensures.tells s in (
      done.0,
      rw (c.answer_of.ensures.same, done.1)
          (sizes_under (front_of (folder_of c.args.self.now.paths)) c.args.name.now
          (g.C.FileCalls.tree c.args.self.now.calls).directory _ done.2),
    )
