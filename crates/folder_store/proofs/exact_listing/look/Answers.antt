use Rattle.std.proofs.Common.{refl, [], ◌∷◌}
use Rattle.folder_store.{proofs.Listing.{fails_after, gives_denied, refused}, specs.ExactListing.Stat}
use Rattle.folder_store.proofs.exact_listing.look.Goals as goal

pub returns-in_err-change : goal.returns-in_err-change
returns-in_err-change g c = gives_denied c.from_residual.result _ c.from_residual.ensures.1 (refused c.in_err-change.ensures)

pub returns-in_err-at : goal.returns-in_err-at
returns-in_err-at g c = gives_denied c.from_residual-in_err-at.result _ c.from_residual-in_err-at.ensures.1
    (fails_after (Stat c.in_ok-change.change ∷ []) (_, c.in_ok-change.ensures, refl) (refused c.in_err-at.ensures))
