use Rattle.std.proofs.Common.{option_map}
use Rattle.folder_store.{specs.MailFolders.draft_begun, proofs.MailCalls.checked}
use Rattle.folder_store.proofs.maildir.FolderMaildirMaildirDisk.check.Goals as goal

pub returns-clause-checks : goal.returns-clause-checks
returns-clause-checks g c = rw c.tally.ensures.same (λ s.
    let begun = option_map (draft_begun g.N.NewFile.made) c.args.self.now.begun in
    let t = c.check.ensures.checks s.0 in (
      (t.0, s.1, c.in_ok-admit.ensures.admitted),
      checked _ _ c.args.folder begun _ _ c.tally.new.failures c.check.result t.1 c.check.ensures.fault c.tally.ensures.counted,
    ))
