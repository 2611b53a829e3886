use Rattle.std.proofs.lemmas.Bool.{OnTrue_at}
use Rattle.mail_terms.specs.Listing.{is_first}
use Rattle.fetch_rules.proofs.PlanLemmas.{are_first, all_flags}
use Rattle.fetch_rules.proofs.occurrence.are_first.Goals as goal

pub returns-then-do_ascend : goal.returns-then-do_ascend
returns-then-do_ascend c =
    all_flags (is_first c.args.listing.now) c.args.listing.now _ c.in_ok-flags.flags.items
    (are_first c.args.listing.now (OnTrue_at c.if-do_ascend.true c.do_ascend.ensures))
    c.len.ensures.count (c.in_ok-flags.ensures.items_if_clones_equal (λ y same. same))
