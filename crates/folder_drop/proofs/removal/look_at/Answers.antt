use Rattle.std.proofs.{Common.{◌∙◌, rules, sym}, lemmas.Bool.false≢true}
use Rattle.folder_drop.proofs.removal.look_at.Goals as goal

pub returns : goal.returns
returns g c = (
  c.in_ok-way.way,
  c.in_ok-found.found,
  (search rules),
  c.in_ok-found.ensures,
  c.if-found.false,
  λ is. absurd (false≢true (sym c.if-is_same.false ∙ c.is_same.ensures.1 is)),
)
