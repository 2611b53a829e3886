use Rattle.std.proofs.Common.{refl, rules, [], ◌∷◌}
use Rattle.folder_store.{proofs.Listing.{fails_after, gives_denied, refused, rests, slept_none, slept_some}, specs.ExactListing.Date}
use Rattle.folder_store.proofs.exact_listing.rest.Goals as goal

pub returns-in_err-now : goal.returns-in_err-now
returns-in_err-now g c = gives_denied c.from_residual.result _ c.from_residual.ensures.1
    (fails_after (Date c.date-date.result ∷ []) (_, c.date-date.ensures, refl) (refused c.in_err-now.ensures))

pub returns-then-is_zero : goal.returns-then-is_zero
returns-then-is_zero g c = rests g.L.ListingCalls.did _ _ _ _ c.args.seen c.date-date.result c.in_ok-now.now c.left-left.result
    c.date-date.ensures c.in_ok-now.ensures c.left-left.ensures (slept_none _ _ _ (search rules))

pub returns : goal.returns
returns g c = rests g.L.ListingCalls.did _ _ _ _ c.args.seen c.date-date.result c.in_ok-now.now c.left-left.result
    c.date-date.ensures c.in_ok-now.ensures c.left-left.ensures (slept_some _ _ _ _ (search rules) c.sleep.ensures)
