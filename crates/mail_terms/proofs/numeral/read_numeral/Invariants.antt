use Rattle.std.proofs.Common.{take}
use Rattle.mail_terms.proofs.NumeralLemmas.{HasDigits}
use Rattle.mail_terms.proofs.numeral.read_numeral.Given as goal

abbrev pub invariant-loop-byte : goal.invariant-loop-byte
invariant-loop-byte l = HasDigits (take l.byte-index l.text) l.value
