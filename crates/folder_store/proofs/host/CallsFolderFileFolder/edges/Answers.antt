use Rattle.folder_store.specs.{HostPaths.{folder_of}, Under.{front_of}}
use Rattle.folder_store.proofs.Folder.{measures_under}
use Rattle.folder_store.proofs.host.CallsFolderFileFolder.edges.Goals as goal

pub returns-clause-measures : goal.returns-clause-measures
returns-clause-measures g c = λ s.
    let done = c.read_edges-answer.ensures.measures s in (
      done.0,
      rw (c.answer_of.ensures.same, done.1)
          (measures_under (front_of (folder_of c.args.self.now.paths)) c.args.name.now
          (g.C.FileCalls.tree c.args.self.now.calls).directory _ done.2),
    )
