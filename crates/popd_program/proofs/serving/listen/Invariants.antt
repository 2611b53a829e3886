use Rattle.std.proofs.Common.{◌≡◌}
use Rattle.popd_program.specs.Visits.{removals_by}
use Rattle.popd_program.proofs.serving.listen.Given as goal

abbrev pub invariant-loop : goal.invariant-loop
invariant-loop g l = l.left.removals ≡ removals_by l.quit l.fn.maildir.removals
