use Rattle.std.proofs.Common.{◌≡◌, ◌++◌, ◌+◌, drop, codes}
use Rattle.pop3_wire.specs.Line.{crlf}
use Rattle.pop3_server.specs.{ServerMachine.lines_from, ReplyLines.row_line}
use Rattle.pop3_server.proofs.reply.say_rows.Given as goal

abbrev pub invariant-loop-i : goal.invariant-loop-i
invariant-loop-i l = l.reply.items ++ lines_from (row_line l.column) (l.i + 1) (drop l.i l.rows) ≡ codes "+OK" ++ crlf
    ++ lines_from (row_line l.column) 1 l.rows
