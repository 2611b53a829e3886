use Rattle.folder_drop.proofs.RemovalLemmas.{true_from}
use Rattle.folder_drop.proofs.finding.open.Goals as goal

pub returns-in-Ok-clause-there : goal.returns-in-Ok-clause-there
returns-in-Ok-clause-there g c = (
  (c.in-Some.file, c.in-Some.found),
  (rw c.in-Some.is at c.in_ok-file.ensures.there),
  true_from c.in-Some.found.is_regular c.if-not-found.false,
  c.in-Ok.ensures,
)
