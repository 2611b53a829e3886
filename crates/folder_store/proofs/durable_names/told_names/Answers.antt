use Rattle.std.proofs.Common.{Ok}
use Rattle.mail_terms.proofs.ErrLemmas.{is_err}
use Rattle.mail_store.specs.declared.maildir.disk.Folder.TheVariants.{New, Cur}
use Rattle.folder_store.specs.{MailCalls.Learns, Sound.WhereFilesSound}
use Rattle.folder_store.proofs.{
  MailCalls.{flushes_leads, leads_learns, learned, told_files, unflushed},
  durable_names.told_names.{Given.Over, Goals.{In_ok-in_new, In_ok-flush_names, In_ok-flush_names-2}},
}
use Rattle.folder_store.proofs.durable_names.told_names.Goals as goal

by_both : (g : Over) (c : In_ok-in_new g)
    → WhereFilesSound g.F.MailFolders.sound g.F.MailFolders.directories c.args.folders.now c.list_both.new.folders Learns
by_both g c = λ s. let (held, (led, _, _)) = c.in_ok-in_new.ensures.lists s in (held, led)

by_new : (g : Over) (c : In_ok-flush_names g)
    → WhereFilesSound g.F.MailFolders.sound g.F.MailFolders.directories c.args.folders.now c.flush_names.new.self Learns
by_new g c = learned _ _ _ (by_both g c.before.before.before.before) c.in_ok-flush_names.ensures.flushes
    (λ t. leads_learns _ _ (flushes_leads New _ _ (Ok c.in_ok-flush_names.field-0) t))

by_cur : (g : Over) (c : In_ok-flush_names-2 g)
    → WhereFilesSound g.F.MailFolders.sound g.F.MailFolders.directories c.args.folders.now c.flush_names-2.new.self Learns
by_cur g c = learned _ _ _ (by_new g c.before.before.before.before) c.in_ok-flush_names-2.ensures.flushes
    (λ t. leads_learns _ _ (flushes_leads Cur _ _ (Ok c.in_ok-flush_names-2.field-0) t))

pub returns-in_err-in_new-clause-tells : goal.returns-in_err-in_new-clause-tells
returns-in_err-in_new-clause-tells g c =
    rw (is_err c.from_residual.result c.from_residual.ensures.1) c.in_err-in_new.ensures.lists

pub returns-in_err-flush_names-clause-tells : goal.returns-in_err-flush_names-clause-tells
returns-in_err-flush_names-clause-tells g c =
    unflushed _ _ _ _ New c.in_err-flush_names.field-0.0 c.from_residual-in_err-flush_names.result
    c.from_residual-in_err-flush_names.ensures.1
    (by_both g (goal.at.returns-in_err-flush_names-clause-tells g c).In_ok-in_new) c.in_err-flush_names.ensures.flushes

pub returns-in_err-flush_names-2-clause-tells : goal.returns-in_err-flush_names-2-clause-tells
returns-in_err-flush_names-2-clause-tells g c =
    unflushed _ _ _ _ Cur c.in_err-flush_names-2.field-0.0 c.from_residual-in_err-flush_names-2.result
    c.from_residual-in_err-flush_names-2.ensures.1
    (by_new g (goal.at.returns-in_err-flush_names-2-clause-tells g c).In_ok-flush_names) c.in_err-flush_names-2.ensures.flushes

pub returns-clause-tells : goal.returns-clause-tells
returns-clause-tells g c = λ s.
    let t4 = c.files_among.ensures.tells s in
    let t3 = c.in_ok-flush_names-2.ensures.flushes t4.0 in
    let t2 = c.in_ok-flush_names.ensures.flushes t3.0 in
    let (_, (_, listed, _)) = c.in_ok-in_new.ensures.lists t2.0 in
    let l = by_cur g (goal.at.returns-clause-tells g c).In_ok-flush_names-2 t4.0 in (
      l.0,
      told_files c.args.asked _ _ _ _ _ c.in_ok-in_new.in_new c.in_ok-in_new.in_cur c.in_ok-flush_names.field-0
          c.in_ok-flush_names-2.field-0 listed t2.1 t3.1 l.1 c.files_among.result c.files_among.ensures.fault t4.1,
    )
