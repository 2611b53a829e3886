use Rattle.folder_store.specs.{HostPaths.{folder_of}, Under.{front_of}}
use Rattle.folder_store.proofs.Folder.{puts_under}
use Rattle.folder_store.proofs.host.CallsFolderFileFolder.put.Goals as goal

pub returns : goal.returns
returns g c = λ s.
    let (before, put) = c.put_made-answer.ensures s in (
      before,
      rw c.answer_of.ensures.same
          (puts_under (g.C.Made.MadeHandle.sound c.args.file.file) (front_of (folder_of c.args.self.now.paths)) c.args.name.now
          (g.C.FileCalls.tree c.args.self.now.calls) (g.C.FileCalls.tree c.put_made-answer.new.calls)
          (g.C.Made.MadeHandle.made c.args.file.file) _ put),
    )
