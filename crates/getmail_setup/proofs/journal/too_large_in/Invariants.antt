use Rattle.std.proofs.Common.{◌≡◌, filter_map, take}
use Rattle.getmail_setup.specs.Journal.{too_large}
use Rattle.getmail_setup.proofs.journal.too_large_in.Given as goal

abbrev pub invariant-loop-step : goal.invariant-loop-step
invariant-loop-step l = l.numbers.items ≡ filter_map too_large (take l.step-index l.plan)
