use Rattle.getmail_setup.specs.Journal.{too_large}
use Rattle.getmail_setup.proofs.ListedLemmas.{picked_more}
use Rattle.getmail_setup.proofs.journal.too_large_in.Goals as goal

pub loop-step-preserved : goal.loop-step-preserved
loop-step-preserved c =
    picked_more too_large c.args.plan.now c.loop-step.step-index _ _ _ _ c.loop-step-test.true c.loop-step.invariant
    c.too_large.ensures c.in_ok-push_some.ensures
