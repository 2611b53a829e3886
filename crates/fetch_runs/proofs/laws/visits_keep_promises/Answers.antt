use Rattle.fetch_runs.proofs.VisitPromises as lemmas
use Rattle.fetch_runs.proofs.laws.visits_keep_promises.Goals as goal

pub returns : goal.returns
returns g c = lemmas.visits_keep_promises g.W.Wire g.D.MaildirDisk g.F.FlatFile c.visits_are_calls.ensures
    c.calls_keep_promises.ensures c.headline.ensures c.calls_get_far.ensures c.mbox_calls_keep_promises.ensures
    c.mbox_headline.ensures c.mbox_calls_get_far.ensures
