use Rattle.getmail_program.proofs.OutputLemmas.{in_pieces}
use Rattle.getmail_program.proofs.fault_line.put_pieces.Goals as goal

pub returns : goal.returns
returns g c = in_pieces g.E.Write.contents c.args.fault.now c.words_of-number.result.0.now c.words_of-number.result.1
    c.args.err.now c.put.new.self c.put-2.new.self c.put_number.new.self c.put-3.new.self c.words_of-number.ensures c.put.ensures
    (rw c.as_bytes.ensures.value at c.put-2.ensures) c.put_number.ensures c.put-3.ensures
