use Rattle.folder_store.proofs.Sharing.{unseen}
use Rattle.folder_store.proofs.host_folders.CallsFoldersMailFolders.discard.Goals as goal

pub returns : goal.returns
returns g c = λ s.
    let done = c.unlink.ensures s in
    (done.0, done.1, unseen (g.S.SharedCalls.shared c.args.self.now.calls) (g.S.SharedCalls.shared c.unlink.new.self) done.2)
