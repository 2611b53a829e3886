use Rattle.std.proofs.Common.{rules}
use Rattle.fetch_runs.proofs.laws.laws_below.Goals as goal

pub returns : goal.returns
returns c = search rules
