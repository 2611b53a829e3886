use Rattle.std.proofs.Common.{Ok, rules}
use Rattle.mail_store.specs.declared.maildir.disk.Folder.TheVariants.{New, Cur}
use Rattle.folder_store.specs.{MailCalls.Learns, Sound.WhereFilesSound}
use Rattle.folder_store.proofs.{
  MailCalls.{lacked, leads_learns, learned, learns_same, lists_learns, both_listed},
  MailMoves.moved_same,
  durable_names.look_at_both.{Given.Over, Goals.{In_ok-in_new, In_ok-in_cur, In_ok-rests}},
}
use Rattle.folder_store.proofs.durable_names.look_at_both.Goals as goal

-- each call begins four steps after the one before it went well
by_list : (g : Over) (c : In_ok-in_new g)
    → WhereFilesSound g.F.MailFolders.sound g.F.MailFolders.directories c.args.folders.now c.list.new.self Learns
by_list g c = λ s. let t = c.in_ok-in_new.ensures.lists s
    in (t.0, lists_learns New c.args.sought _ _ (Ok c.in_ok-in_new.in_new) t.1)

by_lists : (g : Over) (c : In_ok-in_cur g)
    → WhereFilesSound g.F.MailFolders.sound g.F.MailFolders.directories c.args.folders.now c.list-2.new.self Learns
by_lists g c = learned _ _ _ (by_list g c.before.before.before.before) c.in_ok-in_cur.ensures.lists
    (lists_learns Cur c.args.sought _ _ (Ok c.in_ok-in_cur.in_cur))

by_all : (g : Over) (c : In_ok-rests g)
    → WhereFilesSound g.F.MailFolders.sound g.F.MailFolders.directories c.args.folders.now c.rests.new.self Learns
by_all g c = learned _ _ _ (by_lists g c.before.before.before.before) c.in_ok-rests.ensures.tells
    (λ (mid, moved, (same, _, _)). leads_learns _ _ (moved_same _ mid _ moved same))

pub returns-in_err-in_new-clause-looks : goal.returns-in_err-in_new-clause-looks
returns-in_err-in_new-clause-looks g c = lacked _ _ _ _ New c.in_err-in_new.field-0.0 c.from_residual.result c.from_residual.ensures.1
    (λ s. (s, learns_same (g.F.MailFolders.directories c.args.folders.now))) c.in_err-in_new.ensures.lists

pub returns-in_err-in_cur-clause-looks : goal.returns-in_err-in_cur-clause-looks
returns-in_err-in_cur-clause-looks g c =
    lacked _ _ _ _ Cur c.in_err-in_cur.field-0.0 c.from_residual-in_err-in_cur.result c.from_residual-in_err-in_cur.ensures.1
    (by_list g (goal.at.returns-in_err-in_cur-clause-looks g c).In_ok-in_new) c.in_err-in_cur.ensures.lists

pub returns-in_err-rests-clause-looks : goal.returns-in_err-rests-clause-looks
returns-in_err-rests-clause-looks g c =
    lacked _ _ _ _ New c.in_err-rests.field-0.0 c.from_residual-in_err-rests.result c.from_residual-in_err-rests.ensures.1
    (by_lists g (goal.at.returns-in_err-rests-clause-looks g c).In_ok-in_cur)
    (λ s. let (held, (mid, moved, (same, _, missing))) = c.in_err-rests.ensures.tells s in (held, (mid, moved, (same, missing))))

pub returns-then-not-branch-clause-looks : goal.returns-then-not-branch-clause-looks
returns-then-not-branch-clause-looks g c = λ s.
    let t = by_all g (goal.at.returns-then-not-branch-clause-looks g c).In_ok-rests s in
    (t.0, (t.1, tt, tt))

pub returns-clause-looks : goal.returns-clause-looks
returns-clause-looks g c = λ s.
    let t3 = c.in_ok-rests.ensures.tells s in
    let t2 = c.in_ok-in_cur.ensures.lists t3.0 in
    let t1 = c.in_ok-in_new.ensures.lists t2.0 in
    let all = by_all g (goal.at.returns-clause-looks g c).In_ok-rests s in
    let both = both_listed c.args.sought _ _ _ _ c.in_ok-in_new.in_new c.in_ok-in_cur.in_cur c.in_ok-rests.field-0
    t1.1 t2.1 t3.1 (search rules) in
    (all.0, (all.1, both, tt))
