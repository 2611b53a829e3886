use Rattle.std.proofs.Common.{refl}
use Rattle.local_fetch.proofs.MoveLemmas as lemmas
use Rattle.local_fetch.proofs.laws.mail_is_moved.Goals as goal

pub returns : goal.returns
returns g c = lemmas.mail_is_moved _ g.D.MaildirDisk g.F.FlatFile g.M.Maildrop (λ w. refl) (λ u v serves. serves) c.laws_below.ensures
    c.sessions_are_conversations.ensures c.fetches_keep_promises.ensures
