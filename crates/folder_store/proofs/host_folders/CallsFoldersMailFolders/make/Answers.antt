use Rattle.std.proofs.Common.{Err, Ok}
use Rattle.folder_store.proofs.Sharing.{makes_draft}
use Rattle.folder_store.proofs.host_folders.CallsFoldersMailFolders.make.Goals as goal

pub returns-in-Ok-clause-makes : goal.returns-in-Ok-clause-makes
returns-in-Ok-clause-makes g c = λ s is_sound.
    let done = c.create-answer.ensures s in (
      done.0,
      makes_draft g.S.Made.MadeHandle.made g.S.Made.MadeHandle.sound (g.S.SharedCalls.shared c.args.self.now.calls)
          (g.S.SharedCalls.shared c.create-answer.new.self) c.create-answer.result (Ok c.in-Ok.file) c.in-Ok.ensures.same done.1 done.2
          is_sound,
    )

pub returns-in-Err-clause-makes : goal.returns-in-Err-clause-makes
returns-in-Err-clause-makes g c = λ s is_sound.
    let done = c.create-answer.ensures s in (
      done.0,
      makes_draft g.S.Made.MadeHandle.made g.S.Made.MadeHandle.sound (g.S.SharedCalls.shared c.args.self.now.calls)
          (g.S.SharedCalls.shared c.create-answer.new.self) c.create-answer.result (Err c.in-Err.fault) c.in-Err.ensures.same done.1 done.2
          is_sound,
    )
