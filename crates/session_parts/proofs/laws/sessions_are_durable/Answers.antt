use Rattle.std.proofs.Common.{rules}
use Rattle.session_parts.proofs.DurableLemmas as lemmas
use Rattle.session_parts.proofs.laws.sessions_are_durable.Goals as goal

pub returns : goal.returns
returns c = lemmas.sessions_are_durable (search rules)
