use Rattle.std.proofs.Common.{◌≡◌, ◌++◌, map, take, drop}
use Rattle.pop3_server.specs.ServerMachine.{unmarked}
use Rattle.pop3_server.proofs.rows.Rows.unmark.Given as goal

abbrev pub invariant-loop-row : goal.invariant-loop-row
invariant-loop-row l = l.row-items ≡ map unmarked (take l.row-index l.initial.row-items) ++ drop l.row-index l.initial.row-items
