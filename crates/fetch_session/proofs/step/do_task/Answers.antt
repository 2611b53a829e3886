use Rattle.std.proofs.Common.{◌∷◌, [], Ok, sym, subst, refl, arith}
use Rattle.session_parts.{
  specs.{declared.work.Store.{Store, TheVariants.{Maildir, Mboxrd}}, Parts.{IsReadyFor, RunsTasks}, Target.target_of, Task.{stores, skips}},
  proofs.{PartLemmas.{link_still, runs_talking}, TextLemmas.taken_idle, TalkLemmas.talked_none},
}
use Rattle.fetch_session.proofs.step.do_task.Goals as goal

pub take_into_maildir-requires : goal.take_into_maildir-requires
take_into_maildir-requires g c = subst (λ (store : Store g.row.D.Denot g.row.F.Denot). IsReadyFor g.D.MaildirDisk g.F.FlatFile
    c.args.account.now (stores c.in-Store.number c.in-Store.uid.now ∷ []) (record { store = store; ledger = c.args.work.now.ledger }))
    c.in-Maildir.is (rw c.in-Store.is at c.requires)

pub returns-in-Maildir : goal.returns-in-Maildir
returns-in-Maildir g c =
    let took = c.take_into_maildir in
    rw c.in-Store.is (subst (λ (store : Store g.row.D.Denot g.row.F.Denot). RunsTasks g.W.Wire g.D.MaildirDisk g.F.FlatFile
    c.args.account.now (stores c.in-Store.number c.in-Store.uid.now ∷ []) c.args.client.now
    (record { store = store; ledger = c.args.work.now.ledger }) took.result took.new.client
    (record { store = Maildir took.new.disk; ledger = took.new.ledger })) (sym c.in-Maildir.is) took.ensures)

pub returns-in-Mboxrd : goal.returns-in-Mboxrd
returns-in-Mboxrd g c =
    let took = c.take_into_mbox in
    rw c.in-Store.is (subst (λ (store : Store g.row.D.Denot g.row.F.Denot). RunsTasks g.W.Wire g.D.MaildirDisk g.F.FlatFile
    c.args.account.now (stores c.in-Store.number c.in-Store.uid.now ∷ []) c.args.client.now
    (record { store = store; ledger = c.args.work.now.ledger }) took.result took.new.client
    (record { store = Mboxrd took.new.mbox; ledger = took.new.ledger })) (sym c.in-Mboxrd.is) (took.ensures c.args.account.now))

pub returns-in-Reread : goal.returns-in-Reread
returns-in-Reread g c = rw c.in-Reread.is (c.reread.ensures c.args.account.now c.in-Reread.uid.now)

pub returns-in-Skip : goal.returns-in-Skip
returns-in-Skip g c =
    let work = c.args.work.now in
    let client = c.args.client.now in
    let took = taken_idle (target_of work.store c.args.account.now)
    (record { task = skips c.in-Skip.number c.in-Skip.size; replies = [] }) (λ account. refl) refl refl tt
    (talked_none _) c.note.ensures.items in
    rw c.in-Skip.is (runs_talking g.W.Wire c.args.account.now (skips c.in-Skip.number c.in-Skip.size) client client work
    c.note.new.lines (Ok tt) refl link_still (omega (arith, c.note.ensures.len), omega (arith, c.note.ensures.capacity))
    (λ w. (w, g.met.W.Wire.leads_same client.wire.now, took)) c.requires.ready)
