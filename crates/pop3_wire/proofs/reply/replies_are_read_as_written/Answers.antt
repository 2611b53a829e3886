use Rattle.pop3_wire.proofs.RowsLemmas.{first_lines_are_read, numbers_are_read, scan_rows_are_read, uid_rows_are_read}
use Rattle.pop3_wire.proofs.reply.replies_are_read_as_written.Goals as goal

pub returns : goal.returns
returns c = record { first = first_lines_are_read; numbers = numbers_are_read; scan = scan_rows_are_read; uid = uid_rows_are_read }
