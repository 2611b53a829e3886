use Rattle.std.proofs.Common.{refl, []}
use Rattle.std.specs.Option.{option_map}
use Rattle.folder_store.{proofs.Listing.{gives_denied, gives_no_memory, passes, refused}, specs.ExactListing.name_texts}
use Rattle.folder_store.proofs.exact_listing.pass_through.Goals as goal

pub returns-in_err-octets-clause-makes : goal.returns-in_err-octets-clause-makes
returns-in_err-octets-clause-makes g c = gives_no_memory c.from_residual.result _ c.from_residual.ensures.1 [] refl

pub returns-in_err-opened-clause-makes : goal.returns-in_err-opened-clause-makes
returns-in_err-opened-clause-makes g c =
    gives_denied c.from_residual-in_err-opened.result _ c.from_residual-in_err-opened.ensures.1 (refused c.in_err-opened.ensures)

pub returns-clause-makes : goal.returns-clause-makes
returns-clause-makes g c = passes g.L.ListingCalls.did _ _ _ c.args.search.now.wanted c.args.seen (option_map name_texts)
    c.read_to_end.result c.in_ok-opened.ensures c.read_to_end.ensures.makes
