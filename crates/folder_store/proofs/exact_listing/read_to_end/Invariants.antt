use Rattle.std.proofs.Common.{◌≡◌, map, string_bytes}
use Rattle.folder_store.proofs.Listing.{Reading}
use Rattle.folder_store.proofs.exact_listing.read_to_end.Given as goal

abbrev pub invariant-loop-reads : goal.invariant-loop-reads
invariant-loop-reads g l = (l.search.wanted ≡ l.fn.search.wanted)
    × Reading g.L.ListingCalls.did l.fn.search.wanted l.fn.folder l.folder l.reads (map string_bytes l.found.items)
