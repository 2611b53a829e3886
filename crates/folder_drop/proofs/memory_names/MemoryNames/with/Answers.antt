use Rattle.std.{proofs.{Common.{◌∙◌, inl}, lemmas.List.Sorted.IsPermutation-insert}}
use Rattle.folder_drop.specs.MemoryNames.{place_of_name}
use Rattle.folder_drop.proofs.MemoryLemmas.{ascends_with, has_place}
use Rattle.folder_drop.proofs.memory_names.MemoryNames.with.Goals as goal

pub returns-in_default-clause-err : goal.returns-in_default-clause-err
returns-in_default-clause-err c =
    let found = c.in_default.ensures.found in
    inl (c.from.ensures, has_place c.args.self.now.items.items (place_of_name c.args.one) c.args.one c.in_default.field-0 found.0 found.1)

pub invariant_of-result : goal.invariant_of-result
invariant_of-result c =
    let same = c.in_ok-items.ensures.items ∙ c.as_slice.ensures.value in
    record {
      ascending = rw (c.in_ok-insert.ensures.items, same) (ascends_with c.args.self.now.items.items c.in-Err.at c.args.one
          c.args.self.now.ascending c.in-Err.ensures.between.1);
    }

pub returns-clause-ok : goal.returns-clause-ok
returns-clause-ok c =
    let same = c.in_ok-items.ensures.items ∙ c.as_slice.ensures.value in (
      c.in_ok-check_name.ensures.ok,
      rw (c.in_ok-insert.ensures.items, same)
          (IsPermutation-insert c.args.self.now.items.items c.in-Err.at c.args.one),
    )
