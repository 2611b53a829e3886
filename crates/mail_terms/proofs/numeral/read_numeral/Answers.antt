use Rattle.std.proofs.Common.{◌∙◌, sym, arith}
use Rattle.mail_terms.proofs.NumeralLemmas.{digits_more}
use Rattle.mail_terms.proofs.numeral.read_numeral.Goals as goal

pub loop-byte-preserved : goal.loop-byte-preserved
loop-byte-preserved c =
    digits_more c.args.text.now c.loop-byte.byte-index c.loop-byte.value c.in_ok-value.value (omega arith) c.loop-byte.invariant
    (sym c.is_ascii_digit.ensures.value ∙ c.if-not-is_ascii_digit.false) (omega arith) (omega arith)
