use Rattle.std.{proofs.Common.rules, proofs.lemmas.Fn.always_returns_same}
use Rattle.folder_drop.specs.{MemoryNames.place_of_name, Places.places_cmp}
use Rattle.folder_drop.proofs.MemoryLemmas.{is_between, is_found}
use Rattle.folder_drop.proofs.memory_names.MemoryNames.search.Goals as goal

pub returns-clause-found : goal.returns-clause-found
returns-clause-found c = rw (← c.deref.ensures.value)
    (is_found c.deref.result.now (c.args.folder, c.args.name.now) c.binary_search_by.result c.binary_search_by.ensures.bound
    (c.binary_search_by.ensures.position (λ one. places_cmp (place_of_name one) (c.args.folder, c.args.name.now))
    (always_returns_same _ _ _ (λ a r q k. search rules))))

pub returns-clause-between : goal.returns-clause-between
returns-clause-between c = rw (← c.deref.ensures.value)
    (is_between c.deref.result.now (c.args.folder, c.args.name.now) (rw c.deref.ensures.value c.args.self.now.ascending)
    c.binary_search_by.result c.binary_search_by.ensures.bound
    (c.binary_search_by.ensures.position (λ one. places_cmp (place_of_name one) (c.args.folder, c.args.name.now))
    (always_returns_same _ _ _ (λ a r q k. search rules))))
