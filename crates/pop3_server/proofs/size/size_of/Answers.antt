use Rattle.std.proofs.Common.{[]}
use Rattle.pop3_server.proofs.size.size_of.Goals as goal

pub returns : goal.returns
returns c = c.size.ensures c.args.text.now (c.add.ensures [] c.new-count.ensures)
