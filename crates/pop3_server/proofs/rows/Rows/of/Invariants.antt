use Rattle.std.proofs.Common.{◌≡◌, map, All}
use Rattle.pop3_server.specs.ServerMachine.{row_of_entry, IsSmall}
use Rattle.pop3_server.proofs.rows.Rows.of.Given as goal

abbrev pub invariant-loop-entry : goal.invariant-loop-entry
invariant-loop-entry l = (l.rows.items ≡ map row_of_entry l.yielded) × All IsSmall l.rows.items
