use Rattle.std.proofs.Common.{arith}
use Rattle.mail_terms.proofs.IdLemmas.{nobody}
use Rattle.fetch_rules.proofs.PlanLemmas.{HasFirsts-more, HasFirsts-all}
use Rattle.fetch_rules.proofs.occurrence.firsts_by_set.Goals as goal

pub loop-i-preserved : goal.loop-i-preserved
loop-i-preserved c =
    rw c.in_ok-push.ensures.items
    (HasFirsts-more c.args.listing.now c.loop-i.i c.loop-i.ids c.insert.new.self c.loop-i.flags.items c.uid.result.now
    c.in_ok-new.new c.loop-i.invariant (omega arith) (c.uid.ensures.value nobody) c.in_ok-new.ensures.added c.in_ok-new.ensures.ids)

pub returns : goal.returns
returns c = HasFirsts-all c.args.listing.now c.loop-i.i c.loop-i.ids c.loop-i.flags.items c.loop-i.invariant (omega arith)
