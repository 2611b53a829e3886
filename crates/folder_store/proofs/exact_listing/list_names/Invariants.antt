use Rattle.std.proofs.Common.{◌≡◌}
use Rattle.folder_store.proofs.Listing.{Tried}
use Rattle.folder_store.proofs.exact_listing.list_names.Given as goal

abbrev pub invariant-loop-times : goal.invariant-loop-times
invariant-loop-times g l = (l.search.wanted ≡ l.fn.wanted)
    × Tried g.L.ListingCalls.did l.fn.wanted l.fn.folder l.folder l.start l.seen l.times
