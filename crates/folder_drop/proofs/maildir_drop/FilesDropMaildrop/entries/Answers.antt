use Rattle.std.proofs.{Common.{◌≡◌, arith, false, refl, rules}, lemmas.Grind.common_steps}
use Rattle.folder_drop.{specs.FilesMail.FilesMail, proofs.FilesDropLemmas.lists_messages}
use Rattle.folder_drop.proofs.maildir_drop.FilesDropMaildrop.entries.Goals as goal

pub returns-in-Ok-clause-lists : goal.returns-in-Ok-clause-lists
returns-in-Ok-clause-lists g c = λ s.
    let r = c.self.inside in
    let known = c.list_messages.new.self in
    let l = c.in-Ok.ensures.lists s.0 in
    let knows = c.self.invariant l.0 in
    let listed = (l.2 knows).1 in
    let none : r.known.since.are_removed ≡ false = first_of (search rules, grind (arith, common_steps)) in
    let old : FilesMail g.row.D.Denot =
    record { files = r.known.files; listed = r.known.listing.files; failures = r.failures; removals = r.removals } in
    let new : FilesMail g.row.D.Denot =
    record { files = known.files; listed = known.listing.files; failures = r.failures; removals = r.removals } in
    rw (← c.self.view_is) (
      l.0,
      s.1,
      lists_messages g.D.MailFiles.sound g.D.MailFiles.files c.in-Ok.entries old new l.1 (knows.whole none) listed.0 listed.1 refl refl,
    )
