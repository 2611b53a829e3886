use Rattle.fetch_runs.proofs.Progress as lemmas
use Rattle.fetch_runs.proofs.laws.calls_record_the_limit.Goals as goal

pub returns : goal.returns
returns g c = lemmas.record_the_limit g.W.Wire g.D.MaildirDisk g.F.FlatFile c.calls_get_far.ensures
