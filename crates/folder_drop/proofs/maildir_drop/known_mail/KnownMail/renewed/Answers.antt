use Rattle.std.proofs.Common.{subst, sym}
use Rattle.folder_drop.specs.MailFiles.{Stays}
use Rattle.folder_drop.proofs.KnownLemmas.{knows_none, renewed_was}
use Rattle.folder_drop.proofs.maildir_drop.known_mail.KnownMail.renewed.Goals as goal

pub returns-clause-stays : goal.returns-clause-stays
returns-clause-stays g c = subst (λ files. Stays g.D.MailFiles.path g.D.MailFiles.looked c.args.self.files files)
    (sym c.of-known.ensures.files) c.close.ensures.stays

pub returns-clause-knows : goal.returns-clause-knows
returns-clause-knows g c = λ s. (
  c.close.ensures.kept (subst g.D.MailFiles.sound c.of-known.ensures.files s),
  λ knows. knows_none g.D.File.Read.remaining _ _ c.of-known.result.listing c.newer.result c.of-known.result.since
      c.of-known.result.reading c.of-known.ensures.listing
      (renewed_was _ _ c.args.self.listing c.args.self.earlier c.newer.result (returns-clause-stays g c).looks c.newer.ensures
      knows.was knows.before) c.of-known.ensures.rest.0 c.of-known.ensures.rest.1,
)
