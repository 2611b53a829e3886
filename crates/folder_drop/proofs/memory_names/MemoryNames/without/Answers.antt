use Rattle.std.{proofs.{Common.{◌≡◌, arith}, lemmas.List.take_all}, specs.List.filter}
use Rattle.folder_drop.specs.MemoryNames.{is_elsewhere, place_of_name}
use Rattle.folder_drop.proofs.MemoryLemmas.{ascends_without}
use Rattle.folder_drop.proofs.memory_names.MemoryNames.without.Goals as goal

pub invariant_of-result : goal.invariant_of-result
invariant_of-result c =
    let left : c.loop-one.items.items
    ≡ filter (λ one. is_elsewhere (c.args.folder, c.args.name.now) (place_of_name one)) c.args.self.now.items.items =
    grind (arith, c.loop-one.invariant, c.loop-one-test.false, c.deref-one-items.ensures.value, take_all) in
    record {
      ascending = rw left (ascends_without c.args.self.now.items.items (c.args.folder, c.args.name.now) c.args.self.now.ascending);
    }
