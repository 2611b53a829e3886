use Rattle.fetch_runs.proofs.Passwords as lemmas
use Rattle.fetch_runs.proofs.laws.passwords_are_in_pass.Goals as goal

pub returns : goal.returns
returns c = lemmas.passwords_are_in_pass
