use Rattle.std.proofs.Common.{◌∙◌, sym, option_map}
use Rattle.folder_store.{specs.MailFolders.draft_begun, proofs.MailCalls.{begun_anew, begin_missing, begin_refused, none_begun}}
use Rattle.folder_store.proofs.maildir.FolderMaildirMaildirDisk.begin.Goals as goal

pub returns-in-Ok-make-clause-begins : goal.returns-in-Ok-make-clause-begins
returns-in-Ok-make-clause-begins g c = λ s.
    let t = c.in-Ok-make.ensures.makes s.0 s.1 in
    let begun = option_map (draft_begun g.N.NewFile.made) c.args.self.now.begun in (
      (t.0, none_begun c.args.self.now.begun _ (sym c.is_some.ensures ∙ c.if-is_some.false), s.2),
      begun_anew g.N.NewFile.made _ _ begun c.in-Ok.title c.in-Ok-make.file _ _ c.in-Ok.ensures.ok t.1,
    )

pub returns-in-Err-Missing-clause-begins : goal.returns-in-Err-Missing-clause-begins
returns-in-Err-Missing-clause-begins g c = λ s.
    let t = c.in-Err-Missing.ensures.makes s.0 tt in
    let begun = option_map (draft_begun g.N.NewFile.made) c.args.self.now.begun in
    ((t.0, s.1, s.2), begin_missing g.N.NewFile.made _ _ begun _ _ c.in-Err-Missing.field-0-is t.1)

pub returns-clause-begins : goal.returns-clause-begins
returns-clause-begins g c = rw c.refuse-in-Err.ensures.fault (λ s.
    let t = c.in-Err.ensures.makes s.0 tt in
    let begun = option_map (draft_begun g.N.NewFile.made) c.args.self.now.begun in (
      (t.0, s.1, c.in_ok-admit.ensures.admitted),
      begin_refused g.N.NewFile.made _ _ begun _ _ c.in-Err.field-0 c.refuse-in-Err.ensures.counted t.1,
    ))
