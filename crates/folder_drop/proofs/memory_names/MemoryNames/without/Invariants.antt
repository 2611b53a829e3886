use Rattle.std.{proofs.Common.{◌≡◌, take}, specs.List.filter}
use Rattle.folder_drop.specs.MemoryNames.{is_elsewhere, place_of_name}
use Rattle.folder_drop.proofs.memory_names.MemoryNames.without.Given as goal

abbrev pub invariant-loop-one : goal.invariant-loop-one
invariant-loop-one l = l.items.items
    ≡ filter (λ one. is_elsewhere (l.folder, l.name) (place_of_name one)) (take l.one-index l.one-items)
