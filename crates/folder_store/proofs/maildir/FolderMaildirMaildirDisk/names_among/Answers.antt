use Rattle.std.proofs.Common.{option_map, sym}
use Rattle.mail_terms.proofs.ErrLemmas.{is_err}
use Rattle.mail_store.specs.Held.{asks}
use Rattle.folder_store.{specs.MailFolders.draft_begun, proofs.MailCalls.{none_told, told_names}}
use Rattle.folder_store.proofs.maildir.FolderMaildirMaildirDisk.names_among.Goals as goal

pub returns-in_err-found-clause-lists : goal.returns-in_err-found-clause-lists
returns-in_err-found-clause-lists g c =
    rw (is_err c.from_residual-in_err-found.result c.from_residual-in_err-found.ensures.1) (λ s.
    let begun = option_map (draft_begun g.N.NewFile.made) c.args.self.now.begun in
    let is = sym c.in_err-found.ensures.same in
    let (held, (led, _, missing)) = c.told_names.ensures.tells s.0 in (
      (held, s.1, c.in_ok-admit.ensures.admitted),
      none_told (asks c.args.asked) _ _ begun _ c.tally.new.failures c.in_err-found.field-0.0 led (rw is at missing)
          (rw is at c.told_names.ensures.fault) (rw is at c.in_err-found.ensures.counted),
    ))

pub returns-clause-lists : goal.returns-clause-lists
returns-clause-lists g c = λ s.
    let begun = option_map (draft_begun g.N.NewFile.made) c.args.self.now.begun in
    let is = sym c.in_ok-found.ensures.same in
    let t = c.told_names.ensures.tells s.0 in (
      (t.0, s.1, c.in_ok-admit.ensures.admitted),
      told_names (asks c.args.asked) _ _ begun _ _ c.tally.new.failures c.in_ok-found.found (rw is at t.1)
          (rw is at c.in_ok-found.ensures.counted),
    )
