use Rattle.safe_path.specs.Walk.{spot_at}
use Rattle.safe_path.proofs.walk.go_on.Goals as goal

pub returns-in-Ended-clause-ok : goal.returns-in-Ended-clause-ok
returns-in-Ended-clause-ok g c = λ whole links reaches. (
  spot_at c.loop-turn.place c.loop-turn.names.now,
  c.loop-turn.invariant.1 whole links reaches,
  rw c.in-Ended.is at c.in_ok-take_name.ensures.ok,
)
