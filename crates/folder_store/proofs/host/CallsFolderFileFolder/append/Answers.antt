use Rattle.folder_store.specs.{HostPaths.{folder_of}, Under.{front_of}}
use Rattle.folder_store.proofs.Folder.{part_under}
use Rattle.folder_store.proofs.host.CallsFolderFileFolder.append.Goals as goal

pub returns : goal.returns
returns g c = λ s.
    let done = c.append_kept-answer.ensures.appends s in (
      done.0,
      rw c.answer_of.ensures.same
          (part_under _ _ (front_of (folder_of c.args.self.now.paths)) c.args.name.now (g.C.FileCalls.tree c.args.self.now.calls).directory
          (g.C.FileCalls.tree c.append_kept-answer.new.calls).directory _ done.1),
    )
