use Rattle.fetch_runs.proofs.Calls as lemmas
use Rattle.fetch_runs.proofs.laws.mbox_headline.Goals as goal

pub returns : goal.returns
returns g c = lemmas.mbox_headline c.laws_below.ensures g.W.Wire g.D.MaildirDisk g.F.FlatFile
    c.sessions_by_store.ensures.mbox
