use Rattle.local_fetch.proofs.laws.killed_calls_keep_promises.Goals as goal

pub returns-clause-calls : goal.returns-clause-calls
returns-clause-calls g c = (c.calls_keep_promises.ensures, c.calls_keep_order.ensures)

pub returns-clause-mbox_calls : goal.returns-clause-mbox_calls
returns-clause-mbox_calls g c = (c.mbox_calls_keep_promises.ensures, c.mbox_calls_keep_order.ensures)

pub returns-clause-progress : goal.returns-clause-progress
returns-clause-progress g c = (c.calls_get_far.ensures, c.mbox_calls_get_far.ensures)
