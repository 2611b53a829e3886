use Rattle.std.proofs.Common.{◌∙◌, [], arith, below_more, false, sym}
use Rattle.mail_store.proofs.MaildirLemmas.{asked_at, asked_nowhere}
use Rattle.mail_store.proofs.maildir.names.asks.Goals as goal

pub returns-then-branch : goal.returns-then-branch
returns-then-branch c = sym (asked_at c.args.asked.account.now c.args.text.now c.args.asked.listing.now c.args.asked.flags.now c.loop-i.i
    (grind (arith, c.loop-i-test.true, c.min-count.ensures, c.len.ensures.count))
    (grind (arith, c.loop-i-test.true, c.min-count.ensures, c.len.ensures.count))
    (sym (c.in_ok-asks_at.ensures (record { uid = []; size = 0 }) false) ∙ c.if-branch.true))

pub loop-i-preserved : goal.loop-i-preserved
loop-i-preserved c = below_more _ _ c.loop-i.invariant
    (sym (c.in_ok-asks_at.ensures (record { uid = []; size = 0 }) false) ∙ c.if-branch.false)

pub returns : goal.returns
returns c = sym (asked_nowhere c.args.asked.account.now c.args.text.now c.args.asked.listing.now c.args.asked.flags.now
    (λ k a b. c.loop-i.invariant k (grind (arith, a, b, c.loop-i-test.false, c.min-count.ensures, c.len.ensures.count))))
