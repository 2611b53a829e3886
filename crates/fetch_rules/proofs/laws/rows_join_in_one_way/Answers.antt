use Rattle.fetch_rules.proofs.PlanLemmas.{joined_once}
use Rattle.fetch_rules.proofs.laws.rows_join_in_one_way.Goals as goal

pub returns : goal.returns
returns c = joined_once
