use Rattle.std.proofs.Common.{◌≡◌, ◌++◌, List, [], Ok, drop}
use Rattle.session_parts.specs.{Parts.RunsTasks, Task.{Task, tasks_planned}}
use Rattle.fetch_session.proofs.step.do_steps.Given as goal

abbrev pub invariant-loop-i : goal.invariant-loop-i
invariant-loop-i g l = (done : List Task)
    × (tasks_planned l.fn.plan.steps.now l.fn.plan.listing.now l.fn.plan.held.now ≡ done ++ tasks_planned
    (drop l.i l.fn.plan.steps.now) (drop l.i l.fn.plan.listing.now) (drop l.i l.fn.plan.held.now))
    × RunsTasks g.W.Wire g.D.MaildirDisk g.F.FlatFile l.fn.account done l.fn.client l.fn.work (Ok tt) l.client l.work
    × g.L.Listener.hears l.fn.listener [] l.listener
