use Rattle.std.{
  proofs.{Common.{◌<◌, ◌∷◌, inl, inr, length, refl, subst, sym}, lemmas.{List.Elements.All-contains, Result.err_from_is_err_and}},
  specs.List.Sorted.IsPermutation,
}
use Rattle.folder_drop.specs.{
  declared.memory_names.{MemoryName.MemoryName, MemoryNames.MemoryNames},
  MemoryFiles.{file_named, mail_files, place_given},
}
use Rattle.folder_drop.proofs.MemoryFilesLemmas.{contains_map, known_more, lacks_place, left_known, names_one, now_known, refuses_left}
use Rattle.folder_drop.proofs.MemoryFilesLemmas.{taken_place, without_place}
use Rattle.folder_drop.proofs.memory_files.MemoryFiles.rename.Goals as goal

pub returns-in_err-file-clause-renames : goal.returns-in_err-file-clause-renames
returns-in_err-file-clause-renames c =
    let p = err_from_is_err_and c.from_residual.result c.from_residual.ensures.1 in
    let none = c.in_err-file.ensures.err in
    rw (p.1, p.2) (refl, inl (lacks_place c.args.self.now (place_given c.args.from) _ none.0 none.1))

pub returns-then-is_ok-clause-renames : goal.returns-then-is_ok-clause-renames
returns-then-is_ok-clause-renames c =
    let d = c.args.self.now in (
      refl,
      inr (inl (
        c.from.ensures,
        taken_place d (place_given c.args.to) c.find-2.result (sym c.if-is_ok.ensures.value) c.find-2.ensures.ok,
      )),
    )

pub returns-in_err-names-clause-renames : goal.returns-in_err-names-clause-renames
returns-in_err-names-clause-renames c =
    let p = err_from_is_err_and c.from_residual-in_err-names.result c.from_residual-in_err-names.ensures.1 in
    rw (p.1, p.2) (
      refl,
      inr (refuses_left c.args.self.now (place_given c.args.from) (place_given c.args.to) c.in_ok-others.others.items.items _
          c.in_ok-others.ensures c.in_err-names.ensures.err),
    )

pub change-requires : goal.change-requires
change-requires c =
    let d = c.args.self.now in
    known_more (length d.files.items) _ c.in_ok-others.others.items.items c.in_ok-names.names.items.items
    (All-contains (λ one. one.file < length d.files.items) d.names.items.items c.in_ok-file.field-0 (now_known d) c.in_ok-file.ensures.ok.0)
    (left_known d (place_given c.args.from) c.in_ok-others.others.items.items c.in_ok-others.ensures) c.in_ok-names.ensures.ok.1

pub returns-clause-renames : goal.returns-clause-renames
returns-clause-renames c =
    let d = c.args.self.now in
    let one = c.in_ok-file.field-0 in
    let new : MemoryName = record { folder = c.args.to.0; name = c.args.to.1; file = one.file } in
    let others = c.in_ok-others.others.items.items in
    let found = c.in_ok-file.ensures.ok in (
      file_named d.files.items one,
      contains_map (file_named d.files.items) d.names.items.items one found.0,
      found.1,
      (
        c.in_ok-names.ensures.ok.0,
        subst (λ l. IsPermutation (file_named d.files.items new ∷ l) (mail_files c.change.new.self))
            (without_place d (place_given c.args.from) others c.in_ok-others.ensures)
            (names_one d c.change.new.self new others c.change.ensures.files
            (subst (λ (names : MemoryNames). IsPermutation (new ∷ others) names.items.items) (sym c.in_ok-change.ensures.ok)
            c.in_ok-names.ensures.ok.1)),
      ),
    )
