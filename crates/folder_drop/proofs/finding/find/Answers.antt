use Rattle.std.proofs.Common.{◌∙◌, inr, rules, ⊎_elim}
use Rattle.folder_drop.proofs.finding.find.Goals as goal

pub loop-preserved : goal.loop-preserved
loop-preserved g c = (
  (search rules),
  ⊎_elim (λ same. inr (
    c.in_ok-file.file,
    (c.in_ok-file.ensures.0 ∙ same.0, c.in_ok-file.ensures.1 ∙ c.as_str.ensures.value ∙ same.1),
    rw c.in_default.is at c.in_ok-bearer.ensures,
  )) inr c.loop.invariant.1,
)
