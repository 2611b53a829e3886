use Rattle.std.proofs.Common.{◌∙◌, inl, inr, refl, rules, subst, sym}
use Rattle.folder_drop.specs.{Removal.SeesAll, SeenFiles.those_seen}
use Rattle.folder_drop.proofs.TakenLemmas.{copies_then, sees_left, sees_told, stays_on, stays_so}
use Rattle.folder_drop.proofs.removal.remove.Goals as goal

pub loop-init : goal.loop-init
loop-init g c = (inl refl, stays_so _ _ _, refl, λ s. (s, λ sees. (sees, inl refl)))

pub returns-in-Ok-clause-removes : goal.returns-in-Ok-clause-removes
returns-in-Ok-clause-removes g c = (
  c.loop.files,
  record {
    from = those_seen c.loop.seen.files;
    were = c.loop.invariant.0;
    these = c.with_base.result.now;
    have = rw c.base.ensures at c.with_base.ensures;
    removes = c.in-Ok.ensures.removes;
  },
)

pub returns-in-Ok-clause-takes : goal.returns-in-Ok-clause-takes
returns-in-Ok-clause-takes g c s =
    let took = c.in-Ok.ensures.takes s in
    let before = c.loop.invariant.3 took.0 in (
      before.0,
      λ sees. let b = before.1 sees in
          let t = took.1 (those_seen c.loop.seen.files) (rw c.base.ensures at c.with_base.ensures) b.0 in
          (sees_left c.args.listed.now _ _ (those_seen c.loop.seen.files) t.0 b.0, (copies_then c.args.listed.now _ _ _ b.1 t.0, t.1)),
    )

pub returns-in_err-list-clause-takes : goal.returns-in_err-list-clause-takes
returns-in_err-list-clause-takes g c s =
    let took = c.in-Err.ensures.takes s in
    let before = c.loop.invariant.3 took.0 in (
      before.0,
      λ sees. let b = before.1 sees in
          let t = took.1 (those_seen c.loop.seen.files) (rw c.base.ensures at c.with_base.ensures) b.0 in (
            sees_left c.args.listed.now _ _ (those_seen c.loop.seen.files) t.0 b.0,
            (copies_then c.args.listed.now _ _ _ b.1 t.0, (search rules)),
          ),
    )

pub loop-preserved : goal.loop-preserved
loop-preserved g c = (
  inr (subst (λ seen. g.D.MailFiles.told c.remove_seen.new.files (those_seen seen)) (sym c.renew.ensures.files) c.in_ok-list.ensures.told),
  stays_on _ _ _ _ _ c.loop.invariant.1 c.remove_seen.ensures.stays,
  c.renew.ensures.removed ∙ c.loop.invariant.2,
  λ s. let took = c.in-Err.ensures.takes s in
      let before = c.loop.invariant.3 took.0 in (
        before.0,
        λ sees. let b = before.1 sees in
            let t = took.1 (those_seen c.loop.seen.files) (rw c.base.ensures at c.with_base.ensures) b.0 in (
              subst (λ seen. SeesAll (g.D.MailFiles.files c.remove_seen.new.files) (those_seen seen)) (sym c.renew.ensures.files)
                  (sees_told _ c.in_ok-list.field-0.items (g.met.D.MailFiles.lists _ _ s c.in_ok-list.ensures.told)),
              copies_then c.args.listed.now _ _ _ b.1 t.0,
            ),
      ),
)

pub returns-clause-takes : goal.returns-clause-takes
returns-clause-takes g c s =
    let before = c.loop.invariant.3 s in (before.0, λ sees. let b = before.1 sees in (b.0, (b.1, tt)))

pub returns-in-Err-2-clause-takes : goal.returns-in-Err-2-clause-takes
returns-in-Err-2-clause-takes g c s =
    let took = c.remove_seen.ensures.takes s in
    let before = c.loop.invariant.3 took.0 in (
      before.0,
      λ sees. let b = before.1 sees in
          let t = took.1 (those_seen c.loop.seen.files) (rw c.base.ensures at c.with_base.ensures) b.0 in (
            sees_left c.args.listed.now _ _ (those_seen c.loop.seen.files) t.0 b.0,
            (copies_then c.args.listed.now _ _ _ b.1 t.0, (search rules)),
          ),
    )
