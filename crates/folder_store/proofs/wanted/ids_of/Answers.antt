use Rattle.std.proofs.Common.{◌∙◌, arith, sym}
use Rattle.folder_store.proofs.Searching.{ids_end, ids_more, ids_skip, legal_more}
use Rattle.folder_store.proofs.wanted.ids_of.Goals as goal

pub loop-i-preserved-then-not-flags-i : goal.loop-i-preserved-then-not-flags-i
loop-i-preserved-then-not-flags-i c = (
  λ text. c.loop-i.invariant.0 text ∙ sym (ids_skip c.args.asked.account.now text c.args.asked.listing.now c.args.asked.flags.now c.loop-i.i
      (grind (arith, c.loop-i-test.true, c.min-count.ensures, c.len.ensures.count))
      (grind (arith, c.loop-i-test.true, c.min-count.ensures, c.len.ensures.count)) (grind (arith, c.if-not-flags-i.true))),
  c.loop-i.invariant.1,
)

pub loop-i-preserved : goal.loop-i-preserved
loop-i-preserved c = rw c.in_ok-push.ensures.items (
  λ text. ids_more c.args.asked.account.now text c.args.asked.listing.now c.args.asked.flags.now c.loop-i.i c.loop-i.ids.items c.uid.result
      (grind (arith, c.loop-i-test.true, c.min-count.ensures, c.len.ensures.count))
      (grind (arith, c.loop-i-test.true, c.min-count.ensures, c.len.ensures.count)) (grind (arith, c.if-not-flags-i.false))
      c.uid.ensures.value (c.loop-i.invariant.0 text),
  legal_more c.loop-i.ids.items c.uid.result c.loop-i.invariant.1 c.uid.ensures.legal,
)

pub returns-clause-all : goal.returns-clause-all
returns-clause-all c = λ text. ids_end c.args.asked.account.now text c.args.asked.listing.now c.args.asked.flags.now c.loop-i.i _
    (grind (arith, c.loop-i-test.false, c.min-count.ensures, c.len.ensures.count)) (c.loop-i.invariant.0 text)
