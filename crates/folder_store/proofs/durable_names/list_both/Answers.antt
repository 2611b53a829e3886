use Rattle.folder_store.proofs.MailCalls.{learns_on, learns_same}
use Rattle.mail_terms.proofs.ErrLemmas.{is_err}
use Rattle.folder_store.proofs.durable_names.list_both.Goals as goal

pub loop-times-init : goal.loop-times-init
loop-times-init g c = λ s. (s, learns_same (g.F.MailFolders.directories c.args.folders.now))

pub returns-in_err-names-clause-lists : goal.returns-in_err-names-clause-lists
returns-in_err-names-clause-lists g c =
    rw (is_err c.from_residual.result c.from_residual.ensures.1) (λ s.
    let (held, (led, _, missing)) = c.in_err-names.ensures.looks s in
    let (before, so_far) = c.loop-times.invariant held in
    (before, (learns_on _ _ _ so_far led, tt, missing)))

pub returns-in-Some-clause-lists : goal.returns-in-Some-clause-lists
returns-in-Some-clause-lists g c = λ s.
    let look = c.in_ok-names.ensures.looks s in
    let so_far = c.loop-times.invariant look.0 in
    let told = rw c.in-Some.is at look.1 in
    (so_far.0, (learns_on _ _ _ so_far.1 told.0, told.1, tt))

pub loop-times-preserved : goal.loop-times-preserved
loop-times-preserved g c = λ s.
    let (held, (led, _, _)) = c.in_ok-names.ensures.looks s in
    let (before, so_far) = c.loop-times.invariant held in
    (before, learns_on _ _ _ so_far led)
