use Rattle.std.proofs.Common.{◌∙◌, sym}
use Rattle.folder_drop.proofs.RemovalLemmas.{some_from}
use Rattle.folder_drop.proofs.removal.instead.Goals as goal

pub returns : goal.returns
returns g c = (
  c.index-all-0.result,
  (0, some_from _ (sym c.is_empty.ensures ∙ c.if-is_empty.false), sym c.index-all-0.is),
  c.in_ok-two.ensures.1,
)
