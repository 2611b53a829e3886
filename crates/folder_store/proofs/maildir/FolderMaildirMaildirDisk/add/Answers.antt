use Rattle.std.proofs.Common.{◌∙◌, sym}
use Rattle.folder_store.proofs.MailCalls.{not_added}
use Rattle.folder_store.proofs.maildir.FolderMaildirMaildirDisk.add.Goals as goal

pub returns-in-Err-clause-adds : goal.returns-in-Err-clause-adds
returns-in-Err-clause-adds g c = rw (sym c.take.ensures.value ∙ c.in-Some.is) (λ s. (
  (s.0, (c.in-Err.ensures s.1).0, c.in_ok-admit.ensures.admitted),
  λ f h. not_added g.N.NewFile.made (g.F.MailFolders.directories c.args.self.now.folders) c.in-Some.title c.in-Some.file
      c.write-answer.new.self _ _ f c.refuse-in-Err.ensures.counted h,
))
