use Rattle.std.proofs.Common.{◌≡◌, ◌≤◌, ◌*◌, take}
use Rattle.pop3_server.specs.ServerMachine.{left_count, left_total}
use Rattle.pop3_server.proofs.rows.left.Given as goal

abbrev pub invariant-loop-row : goal.invariant-loop-row
invariant-loop-row l = (l.count ≡ left_count (take l.row-index l.rows)) × (l.total ≡ left_total (take l.row-index l.rows))
    × (l.count ≤ l.row-index) × (l.total ≤ 134217728 * l.row-index)
