use Rattle.std.proofs.Common.{subst}
use Rattle.folder_drop.specs.{Listing.FileListing, RealMaildir.{AreAscending, listed_names}}
use Rattle.folder_drop.proofs.listing.DropListing.files.Goals as goal

pub returns-clause-in_order : goal.returns-clause-in_order
returns-clause-in_order c = subst (λ (l : FileListing). AreAscending (listed_names l.files)) c.self.view_is c.self.invariant.ascending
