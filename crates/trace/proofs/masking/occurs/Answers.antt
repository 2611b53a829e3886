use Rattle.std.proofs.Common.{arith, rules}
use Rattle.trace.proofs.masking.occurs.Goals as goal

pub returns-in-None : goal.returns-in-None
returns-in-None c = (
  search rules,
  λ found. let fits = found.1.fits in absurd (c.in-None.ensures found.0 (omega arith) (omega arith) found.1),
)
