use Rattle.std.proofs.Common.{take}
use Rattle.mail_store.proofs.MboxLemmas.{Quoting}
use Rattle.mail_store.proofs.mboxrd.quoting.quote_within.Given as goal

abbrev pub invariant-loop-from : goal.invariant-loop-from
invariant-loop-from l = Quoting (take l.count l.fn.bytes.items) l.fn.bytes.items l.bytes.items l.from l.to l.end

abbrev pub decreases-loop-from : goal.decreases-loop-from
decreases-loop-from l = l.from
