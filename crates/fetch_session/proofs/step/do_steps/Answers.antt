use Rattle.std.proofs.{
  Common.{◌≡◌, ◌++◌, ◌∷◌, List, [], drop, Ok, Err, sym, ap, arith, refl, append_assoc, ◌∙◌},
  lemmas.List.{append-nil, drop_all},
}
use Rattle.fetch_rules.specs.declared.plans.Step.{Step}
use Rattle.session_parts.{
  proofs.{TalkLemmas.err_is, ReadyLemmas.{later_at, empty_item, step_at, tasks_left}},
  proofs.PartLemmas.{runs_before, runs_nothing, runs_same, goes_on, ready_front},
  specs.{Parts.IsReadyFor, Task.{Task, deleting, tasks_planned}},
}
use Rattle.fetch_session.{proofs.step.do_steps.Goals.{After-first_task-first, After-loop-i}, specs.Runs.task_of}
use Rattle.fetch_session.proofs.step.do_steps.Goals as goal

pub loop-i-init : goal.loop-i-init
loop-i-init g c = ([], refl, runs_nothing g.met.W.Wire.leads_same c.requires.ready.ready, g.met.L.Listener.hears_none c.args.listener.now)

-- what is done for the i-th message, and after it
abbrev deletion : (g : _) → After-first_task-first g → List Task
deletion g c = let step = step_at c.args.plan.steps.now c.loop-i.i in deleting step.delete step.number

abbrev now : (g : _) → After-first_task-first g → List Task
now g c = task_of c.first_task-first.result ∷ deletion g c

abbrev later : (g : _) → After-first_task-first g → List Task
later g c = later_at c.args.plan.steps.now c.args.plan.listing.now c.args.plan.held.now c.loop-i.i

split : (g : _) (c : After-first_task-first g) → tasks_planned c.args.plan.steps.now c.args.plan.listing.now c.args.plan.held.now
    ≡ (c.loop-i.invariant.0 ++ now g c) ++ later g c
split g c =
    let done = c.loop-i.invariant.0 in
    c.loop-i.invariant.1 ∙ ap (λ (ts : List Task). done ++ ts)
    (tasks_left c.args.plan.steps.now c.args.plan.listing.now c.args.plan.held.now c.loop-i.i c.uid.result.now
    c.size.result (task_of c.first_task-first.result)
    (omega (arith, c.loop-i-test.true, c.len-i-end.ensures.count)) c.requires.all_steps c.requires.all_flags
    (c.uid.ensures.value empty_item) (c.size.ensures empty_item) c.first_task-first.ensures) ∙ sym (append_assoc done (now g c) (later g c))

-- all is ready for that
ready_now : (g : _) (c : After-first_task-first g)
    → IsReadyFor g.D.MaildirDisk g.F.FlatFile c.args.account.now (now g c) c.loop-i.work
ready_now g c = let (_, _, (kept, _), _) = c.loop-i.invariant in
    ready_front (now g c) (later g c) (kept.next (now g c ++ later g c) (rw (split g c, append_assoc) at c.requires.ready))

pub do_task-requires : goal.do_task-requires
do_task-requires g c =
    let d = (goal.at.do_task-requires g c).After-first_task-first in
    ready_front (task_of c.first_task-first.result ∷ []) (deletion g d) (ready_now g d)

pub delete-requires : goal.delete-requires
delete-requires g c =
    let here = goal.at.delete-requires g c in
    (c.in_ok-do_task.ensures.0.next (deletion g here.After-first_task-first) (ready_now g here.After-first_task-first)).room

pub loop-i-preserved : goal.loop-i-preserved
loop-i-preserved g c =
    let d = (goal.at.loop-i-preserved g c).After-first_task-first in
    let inv = c.loop-i.invariant in
    let done = c.in_ok-do_task.ensures in
    let joins = c.turns_join.ensures in
    let leads = g.met.W.Wire.leads_on in (
      inv.0 ++ now g d,
      split g d,
      goes_on joins leads inv.0 (now g d) (Ok tt) inv.2 (goes_on joins leads (task_of c.first_task-first.result ∷ [])
          (deletion g d) (Ok tt) done (c.in_ok-delete.ensures c.args.account.now (done.0.next (deletion g d) (ready_now g d)))),
      g.met.L.Listener.hears_on _ _ _ [] [] inv.3 c.hear.ensures,
    )

pub returns-in_err-do_task-clause-runs : goal.returns-in_err-do_task-clause-runs
returns-in_err-do_task-clause-runs g c =
    let d = (goal.at.returns-in_err-do_task-clause-runs g c).After-first_task-first in
    let inv = c.loop-i.invariant in
    runs_same (err_is c.from_residual.ensures.1) (split g d) (runs_before (inv.0 ++ now g d) (later g d)
    (goes_on c.turns_join.ensures g.met.W.Wire.leads_on inv.0 (now g d) (Err c.in_err-do_task.field-0.0) inv.2
    (runs_before (task_of c.first_task-first.result ∷ []) (deletion g d) c.in_err-do_task.ensures)))

pub returns-in_err-delete-clause-runs : goal.returns-in_err-delete-clause-runs
returns-in_err-delete-clause-runs g c =
    let d = (goal.at.returns-in_err-delete-clause-runs g c).After-first_task-first in
    let inv = c.loop-i.invariant in
    let done = c.in_ok-do_task.ensures in
    let joins = c.turns_join.ensures in
    let leads = g.met.W.Wire.leads_on in
    runs_same (err_is c.from_residual-in_err-delete.ensures.1) (split g d) (runs_before (inv.0 ++ now g d) (later g d)
    (goes_on joins leads inv.0 (now g d) (Err c.in_err-delete.field-0.0) inv.2 (goes_on joins leads
    (task_of c.first_task-first.result ∷ []) (deletion g d) (Err c.in_err-delete.field-0.0) done
    (c.in_err-delete.ensures c.args.account.now (done.0.next (deletion g d) (ready_now g d))))))

-- none is left
all_done : (g : _) (c : After-loop-i g)
    → tasks_planned c.args.plan.steps.now c.args.plan.listing.now c.args.plan.held.now ≡ c.loop-i.invariant.0
all_done g c =
    let inv = c.loop-i.invariant in
    inv.1 ∙ ap (λ (ss : List Step). inv.0 ++ tasks_planned ss (drop c.loop-i.i c.args.plan.listing.now)
    (drop c.loop-i.i c.args.plan.held.now)) (drop_all c.loop-i.i c.args.plan.steps.now
    (omega (arith, c.loop-i-test.false, c.len-i-end.ensures.count, c.requires.all_steps))) ∙ append-nil inv.0

pub returns-clause-runs : goal.returns-clause-runs
returns-clause-runs g c = rw (all_done g (goal.at.returns-clause-runs g c).After-loop-i) c.loop-i.invariant.2
