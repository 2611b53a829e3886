use Rattle.std.proofs.Common.{[], arith}
use Rattle.pop3_wire.proofs.LineReaderLemmas.{no_line_zero}
use Rattle.pop3_wire.proofs.line_reader.LineReader.new.Goals as goal

pub invariant_of-result : goal.invariant_of-result
invariant_of-result c = (omega arith, omega arith, omega arith, no_line_zero [])
