use Rattle.std.proofs.{Common.{inl, refl}, lemmas.Result.err_from_is_err_and}
use Rattle.folder_drop.specs.MemoryFiles.{place_given}
use Rattle.folder_drop.proofs.MemoryFilesLemmas.{lacks_place, left_known, place_there, without_place}
use Rattle.folder_drop.proofs.memory_files.MemoryFiles.take.Goals as goal

pub returns-in_err-find-clause-takes : goal.returns-in_err-find-clause-takes
returns-in_err-find-clause-takes c =
    let p = err_from_is_err_and c.from_residual.result c.from_residual.ensures.1 in
    let none = c.in_err-find.ensures.err in
    rw (p.1, p.2) (refl, inl (lacks_place c.args.self.now (place_given c.args.from) _ none.0 none.1))

pub change-requires : goal.change-requires
change-requires c = left_known c.args.self.now (place_given c.args.from) c.in_ok-others.others.items.items c.in_ok-others.ensures

pub returns-clause-takes : goal.returns-clause-takes
returns-clause-takes c =
    let d = c.args.self.now in
    let found = c.in_ok-find.ensures.ok in (
      place_there d c.in_ok-find.field-0 (place_given c.args.from) found.0 found.1,
      rw (c.change.ensures.files, c.in_ok-change.ensures.ok)
          (without_place d (place_given c.args.from) c.in_ok-others.others.items.items c.in_ok-others.ensures),
    )
