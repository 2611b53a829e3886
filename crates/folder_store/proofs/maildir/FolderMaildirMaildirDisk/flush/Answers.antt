use Rattle.std.proofs.Common.{option_map}
use Rattle.folder_store.{specs.MailFolders.draft_begun, proofs.MailCalls.{files_flush, files_refused}}
use Rattle.folder_store.proofs.maildir.FolderMaildirMaildirDisk.flush.Goals as goal

pub returns-in-Ok-clause-flushes : goal.returns-in-Ok-clause-flushes
returns-in-Ok-clause-flushes g c = λ s.
    let t = c.in-Ok.ensures.flushes s.0 in (
      (t.0, s.1, s.2),
      files_flush c.args.stems.now _ _ (option_map (draft_begun g.N.NewFile.made) c.args.self.now.begun) _ _ c.in-Ok.are_flushed t.1,
    )

pub returns-in-Err-clause-flushes : goal.returns-in-Err-clause-flushes
returns-in-Err-clause-flushes g c = λ s.
    let begun = option_map (draft_begun g.N.NewFile.made) c.args.self.now.begun in
    let t = c.in-Err.ensures.flushes s.0 in (
      (t.0, s.1, c.in_ok-admit.ensures.admitted),
      files_refused c.args.stems.now _ _ begun _ _ c.in-Err.field-0 c.refuse.ensures.counted t.1,
    )
