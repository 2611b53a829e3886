use Rattle.std.proofs.Common.{◌≡◌, ◌+◌, ◌-◌, arith}
use Rattle.mail_terms.proofs.IdLemmas.{nobody}
use Rattle.fetch_rules.proofs.PlanLemmas.{HasLasts-none, HasLasts-more}
use Rattle.fetch_rules.proofs.occurrence.lasts_by_set.Goals as goal

pub loop-i-init : goal.loop-i-init
loop-i-init c = HasLasts-none c.args.listing.now c.len-i.result c.new-ids.result c.in_ok-flags.flags.items (omega arith)
    c.new-ids.ensures (omega (arith, c.in_ok-flags.ensures.len))

pub loop-i-preserved : goal.loop-i-preserved
loop-i-preserved c =
    let one_on : c.loop-i.i ≡ c.loop-i.i - 1 + 1 = omega arith in
    HasLasts-more c.args.listing.now (c.loop-i.i - 1) c.loop-i.ids c.insert.new.self c.loop-i.flags.items
    c.uid.result.now c.in_ok-flags-2.field-0 (rw one_on at c.loop-i.invariant) (omega arith)
    (c.uid.ensures.value nobody) c.in_ok-flags-2.ensures.added c.in_ok-flags-2.ensures.ids
