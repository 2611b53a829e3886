use Rattle.std.proofs.{Common.{◌+◌, arith}, lemmas.List.take_rest}
use Rattle.mail_terms.proofs.TextLemmas.{first_text_line}
use Rattle.mail_terms.proofs.text.cut_text.Goals as goal

pub returns-clause-cut : goal.returns-clause-cut
returns-clause-cut c = rw (take_rest c.args.text.now (c.line_end-length.result + 1))
    (first_text_line c.args.text.now c.line_end-length.result c.line_end-length.ensures.value (omega arith))
