use Rattle.std.proofs.Common.{ap}
use Rattle.folder_drop.proofs.KnownLemmas.{knows_removed, ok_within}
use Rattle.folder_drop.proofs.maildir_drop.known_mail.KnownMail.remove_file.Goals as goal

pub returns-clause-takes : goal.returns-clause-takes
returns-clause-takes g c = λ s.
    let old = c.args.self.now in
    let e = c.files.ensures.files in
    let took = c.remove_at.ensures.takes s in (
      took.0,
      λ knows. knows_removed g.D.File.Read.remaining _ c.remove_at.result (g.D.MailFiles.files old.files)
          (g.D.MailFiles.files c.remove_at.new.files) _ _ old.listing old.earlier c.args.i old.since c.remove_at.new.seen old.reading
          (g.met.D.MailFiles.whole _ took.0) c.files.ensures.in_order c.remove_at.ensures.stays.looks
          (rw e at (ok_within _ _ _ _ c.remove_at.ensures.removes)) (rw e at c.remove_at.ensures.begun)
          (λ past. let same = (rw e at c.remove_at.ensures.beyond) past in (ap g.D.MailFiles.files same.0, same.1))
          (rw e at took.1) knows,
    )
