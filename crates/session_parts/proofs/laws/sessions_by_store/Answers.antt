use Rattle.mail_store.specs.Devices.{stored_in}
use Rattle.session_parts.{
  specs.{Account.digits_of, Durable.DurableSession, Target.AfterTakingIn, Session.{SessionIn, keeping}},
  proofs.SessionLemmas.{entries_session, files_session},
}
use Rattle.session_parts.proofs.laws.sessions_by_store.Goals as goal

pub returns-clause-maildir : goal.returns-clause-maildir
returns-clause-maildir g c = λ now old new wire wire' report same runs w d f.
    files_session g.D.MaildirDisk g.F.FlatFile old.store new.store (digits_of old.settings) (λ t s s'. AfterTakingIn s
    (λ left. SessionIn old.settings t now (g.W.Wire.history wire) (keeping left (stored_in g.F.FlatFile old.file))
    report (g.W.Wire.history wire') (keeping s' (stored_in g.F.FlatFile new.file))))
    _ _ _ same.kind (λ sound.
    let (wires, disks, files, leads, (left, part, is)) = runs w sound f in (wires, disks, files, leads, (left, part, is.0))) d

pub returns-clause-mbox : goal.returns-clause-mbox
returns-clause-mbox g c = λ now old new wire wire' report same runs w d f.
    entries_session g.D.MaildirDisk g.F.FlatFile old.store new.store (digits_of old.settings)
    (λ t s s'. (session : SessionIn old.settings t now (g.W.Wire.history wire) (keeping s (stored_in g.F.FlatFile old.file))
    report (g.W.Wire.history wire') (keeping s' (stored_in g.F.FlatFile new.file)))
    × DurableSession g.F.FlatFile old.store old.file session new.store new.file) _ _ _ same.kind (λ sound. runs w sound f) d
