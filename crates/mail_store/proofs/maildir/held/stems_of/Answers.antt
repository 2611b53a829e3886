use Rattle.std.proofs.{Common.{arith, below_more}, lemmas.Bool.both_ways}
use Rattle.mail_store.proofs.MaildirLemmas.{stems_more}
use Rattle.mail_store.proofs.maildir.held.stems_of.Goals as goal

pub loop-i-preserved-then-not-held-i : goal.loop-i-preserved-then-not-held-i
loop-i-preserved-then-not-held-i c = below_more _ _ c.loop-i.invariant (λ item here h f. absurd (both_ways _ c.if-not-held-i.true (h _)))

pub loop-i-preserved-then-not-flags-i : goal.loop-i-preserved-then-not-flags-i
loop-i-preserved-then-not-flags-i c = below_more _ _ c.loop-i.invariant (λ item here h f. absurd (both_ways _ c.if-not-flags-i.true (f _)))

pub loop-i-preserved : goal.loop-i-preserved
loop-i-preserved c = rw c.in_ok-push.ensures.items (stems_more c.args.account.now _ _ _ _ c.loop-i.stems.items
    c.in_ok-file_stem.field-0 c.uid.result.now c.loop-i.invariant c.uid.ensures.value c.in_ok-file_stem.ensures.stem)

pub returns : goal.returns
returns c = λ k below. c.loop-i.invariant k (omega (arith, below, c.loop-i-test.false, c.len-i-end.ensures.count))
