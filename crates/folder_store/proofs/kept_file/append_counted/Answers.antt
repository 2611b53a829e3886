use Rattle.std.proofs.Common.{refl, [], ◌++◌, ◌∙◌, take}
use Rattle.folder_store.proofs.Changing.{appended_more, appended_none, appended_part, rest_after}
use Rattle.folder_store.proofs.kept_file.append_counted.Goals as goal
use Rattle.folder_store.proofs.kept_file.append_counted.Goals.{in-Some, in-None}

pub loop-init : goal.loop-init
loop-init g c = ([], refl, λ s. (s, (refl, record { is = λ b leads. appended_none (g.C.FileCalls.tree c.args.calls.now) _ b leads })))

pub returns-in-Err-clause-appends : goal.returns-in-Err-clause-appends
returns-in-Err-clause-appends g c = λ s.
    let (held, (same, wrote)) = c.in-Err.ensures.appends s in
    let (front, split, so) = c.loop.invariant in
    let (before, (opened, so_far)) = so held in (
      before,
      (
        same ∙ opened,
        appended_part (g.C.FileCalls.tree c.args.calls.now) (g.C.FileCalls.tree c.loop.calls) _ _ _ _ front c.loop.rest.now so_far opened
            split wrote,
      ),
    )

pub loop-preserved : goal.loop-preserved
loop-preserved g c =
    let (front, split, so) = c.loop.invariant in
    elim c.match-wrote.branch [
      | in-Some w ↦ (
        front ++ take w.in-Some.count c.loop.rest.now,
        rw w.rest-is (rest_after _ front c.loop.rest.now w.in-Some.count split),
        λ s. let (held, (same, wrote)) = rw w.in-Some.is at (c.in-Ok.ensures.appends s) in
            let (before, (opened, so_far)) = so held in (
              before,
              (
                same ∙ opened,
                appended_more (g.C.FileCalls.tree c.args.calls.now) (g.C.FileCalls.tree c.loop.calls) _ _ _ front
                    (take w.in-Some.count c.loop.rest.now) so_far opened wrote,
              ),
            ),
      )
      | in-None w ↦ (
        front,
        rw w.rest-is split,
        λ s. let (held, (same, stays)) = rw w.in-None.is at (c.in-Ok.ensures.appends s) in
            let (before, (opened, so_far)) = so held in (before, (same ∙ opened, rw stays so_far)),
      )
    ]
