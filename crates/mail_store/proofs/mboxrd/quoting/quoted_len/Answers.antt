use Rattle.std.proofs.Common.{◌∙◌, sym, arith, add-zero}
use Rattle.mail_store.proofs.MboxLemmas.{counts_line, marked_len}
use Rattle.mail_store.proofs.mboxrd.quoting.quoted_len.Goals as goal

pub loop-rest-preserved-then-is_marked : goal.loop-rest-preserved-then-is_marked
loop-rest-preserved-then-is_marked c =
    let is = sym c.is_marked.ensures ∙ c.if-is_marked.true in
    counts_line _ _ _ _ _ 1 c.loop-rest.invariant c.cut_line.ensures.cuts (rw is (omega arith))
    (omega (arith, marked_len c.cut_line.result.0.now is))

pub loop-rest-preserved : goal.loop-rest-preserved
loop-rest-preserved c = rw (← add-zero c.loop-rest.marked) (counts_line _ _ _ _ _ 0 c.loop-rest.invariant c.cut_line.ensures.cuts
    (rw (sym c.is_marked.ensures ∙ c.if-is_marked.false) (omega arith)) (omega arith))
