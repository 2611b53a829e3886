use Rattle.pop3_wire.proofs.RowsLemmas.{one_list_of_commands}
use Rattle.pop3_wire.proofs.command_line.only_one_list_of_commands.Goals as goal

pub returns : goal.returns
returns c = one_list_of_commands
