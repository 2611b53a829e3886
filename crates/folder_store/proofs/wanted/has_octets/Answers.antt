use Rattle.std.proofs.Common.{◌∙◌}
use Rattle.folder_store.proofs.Searching.{search_finds}
use Rattle.folder_store.proofs.wanted.has_octets.Goals as goal

pub returns : goal.returns
returns c = c.is_ok.ensures.value ∙ search_finds c.args.texts.now c.args.text.now c.binary_search.result c.requires
    c.binary_search.ensures.bound c.binary_search.ensures.position
