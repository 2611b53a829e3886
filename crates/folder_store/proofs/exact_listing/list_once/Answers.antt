use Rattle.std.proofs.Common.{None, refl}
use Rattle.std.specs.Option.{option_map}
use Rattle.folder_store.{proofs.Listing.{agree, differ, fails_after, gives_denied, lists_once}, specs.ExactListing.name_texts}
use Rattle.folder_store.proofs.exact_listing.list_once.Goals as goal

pub returns-in_err-rest-clause-makes : goal.returns-in_err-rest-clause-makes
returns-in_err-rest-clause-makes g c = gives_denied c.from_residual.result _ c.from_residual.ensures.1 c.in_err-rest.ensures

pub returns-in_err-found-clause-makes : goal.returns-in_err-found-clause-makes
returns-in_err-found-clause-makes g c =
    let (xs, rested, _) = c.in_ok-rest.ensures in
    gives_denied c.from_residual-in_err-found.result _ c.from_residual-in_err-found.ensures.1
    (fails_after xs rested c.in_err-found.ensures.makes)

pub returns-in_err-again-clause-makes : goal.returns-in_err-again-clause-makes
returns-in_err-again-clause-makes g c =
    let (xs, rested, _) = c.in_ok-rest.ensures in
    let (ys, passed, _) = c.in_ok-found.ensures.makes in
    gives_denied c.from_residual-in_err-again.result _ c.from_residual-in_err-again.ensures.1
    (fails_after xs rested (fails_after ys passed c.in_err-again.ensures))

pub returns-then-ne-clause-makes : goal.returns-then-ne-clause-makes
returns-then-ne-clause-makes g c = lists_once g.L.ListingCalls.did c.args.search.now.wanted c.args.seen c.in_ok-again.again
    (option_map name_texts c.in_ok-found.found) None _ _ _ _ c.in_ok-rest.ensures c.in_ok-found.ensures.makes c.in_ok-again.ensures
    (λ same. absurd (differ _ _ c.if-ne.ensures same)) (λ _. refl)

pub returns-clause-makes : goal.returns-clause-makes
returns-clause-makes g c = lists_once g.L.ListingCalls.did c.args.search.now.wanted c.args.seen c.in_ok-again.again
    (option_map name_texts c.in_ok-found.found) (option_map name_texts c.in_ok-found.found) _ _ _ _ c.in_ok-rest.ensures
    c.in_ok-found.ensures.makes c.in_ok-again.ensures (λ _. refl) (λ apart. absurd (apart (agree _ _ c.if-ne.ensures)))
