use Rattle.std.proofs.{Common.arith, lemmas.Bool.OnTrue_at}
use Rattle.mail_terms.proofs.IdLemmas.{nobody}
use Rattle.fetch_rules.proofs.PlanLemmas.{Ascends-more, Ascends-all}
use Rattle.fetch_rules.proofs.occurrence.do_ascend.Goals as goal

pub loop-i-init : goal.loop-i-init
loop-i-init c = λ k within. absurd (omega (arith, within))

pub loop-i-preserved : goal.loop-i-preserved
loop-i-preserved c =
    Ascends-more c.args.listing.now c.loop-i.i c.uid.result.now c.uid-in-loop-i.result.now c.loop-i.invariant
    (c.uid.ensures.value nobody) (c.uid-in-loop-i.ensures.value nobody) (OnTrue_at c.if-not-comes_before.false c.comes_before.ensures)

pub returns : goal.returns
returns c = Ascends-all c.args.listing.now c.loop-i.i c.loop-i.invariant (omega arith)
