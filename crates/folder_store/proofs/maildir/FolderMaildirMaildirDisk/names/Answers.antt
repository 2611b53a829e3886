use Rattle.std.proofs.Common.{option_map}
use Rattle.folder_store.{specs.MailFolders.draft_begun, proofs.MailCalls.told_those}
use Rattle.folder_store.proofs.maildir.FolderMaildirMaildirDisk.names.Goals as goal

pub returns-clause-lists : goal.returns-clause-lists
returns-clause-lists g c = rw c.tally.ensures.same (λ s.
    let begun = option_map (draft_begun g.N.NewFile.made) c.args.self.now.begun in
    let t = c.told_names_of.ensures.tells s.0 in (
      (t.0, s.1, c.in_ok-admit.ensures.admitted),
      told_those _ _ _ begun _ c.tally.new.failures c.told_names_of.result t.1 c.told_names_of.ensures.fault c.tally.ensures.counted,
    ))
