use Rattle.folder_store.specs.{HostPaths.{folder_of}, Under.{front_of}}
use Rattle.folder_store.proofs.Folder.{pieces_under}
use Rattle.folder_store.proofs.host.CallsFolderFileFolder.read_at.Goals as goal

pub returns-clause-reads : goal.returns-clause-reads
returns-clause-reads g c = λ s.
    let done = c.read_piece-answer.ensures.reads s in (
      done.0,
      rw (c.answer_of.ensures.same, done.1)
          (pieces_under (front_of (folder_of c.args.self.now.paths)) c.args.name.now
          (g.C.FileCalls.tree c.args.self.now.calls).directory c.args.start _ _ done.2),
    )
