use Rattle.std.proofs.{Common.{◌≡◌, arith, refl, rules}, lemmas.Grind.common_steps}
use Rattle.mail_terms.specs.FailureCount.{counted_up}
use Rattle.folder_drop.{specs.FilesMail.FilesMail, proofs.FilesDropLemmas.{removes, removes_maybe}}
use Rattle.folder_drop.proofs.maildir_drop.FilesDropMaildrop.remove.Goals as goal

pub returns-then-is_removed-clause-removes : goal.returns-then-is_removed-clause-removes
returns-then-is_removed-clause-removes g c = λ s.
    let r = c.self.inside in
    let known = c.remove_file-told.new.self in
    let took = c.remove_file-told.ensures.takes s.0 in
    let slot = (took.1 (c.self.invariant took.0)).1 in
    let asks : c.saturating_add-self-inside.result ≡ counted_up r.removals = first_of (search rules, grind (arith, common_steps)) in
    let old : FilesMail g.row.D.Denot =
    record { files = r.known.files; listed = r.known.listing.files; failures = r.failures; removals = r.removals } in
    let new : FilesMail g.row.D.Denot =
    record { files = known.files; listed = r.known.listing.files; failures = r.failures; removals = c.saturating_add-self-inside.result } in
    rw (← c.self.view_is, c.remove_file-told.ensures.same) (
      took.0,
      s.1,
      removes g.D.MailFiles.sound g.D.MailFiles.files c.remove_file-told.result c.args.i old new slot (c.if-is_removed.ensures.0 refl) asks
          refl,
    )

pub returns-clause-removes : goal.returns-clause-removes
returns-clause-removes g c = λ s.
    let r = c.self.inside in
    let known = c.remove_file-told.new.self in
    let took = c.remove_file-told.ensures.takes s.0 in
    let slot = (took.1 (c.self.invariant took.0)).1 in
    let asks : c.saturating_add-self-inside.result ≡ counted_up r.removals = first_of (search rules, grind (arith, common_steps)) in
    let old : FilesMail g.row.D.Denot =
    record { files = r.known.files; listed = r.known.listing.files; failures = r.failures; removals = r.removals } in
    let new : FilesMail g.row.D.Denot = record {
      files = known.files;
      listed = r.known.listing.files;
      failures = c.count_up.new.self;
      removals = c.saturating_add-self-inside.result;
    } in
    let maybe = removes_maybe g.D.MailFiles.sound g.D.MailFiles.files c.remove_file-told.result c.args.i old new slot asks
    c.count_up.ensures
    s.1 in
    rw (← c.self.view_is, c.remove_file-told.ensures.same) (took.0, maybe.0, maybe.1)
