use Rattle.std.{
  proofs.{Common.{◌<◌, ◌∷◌, inl, inr, length, refl, subst, sym}, lemmas.{List.Elements.All-contains, Result.err_from_is_err_and}},
  specs.List.Sorted.IsPermutation,
}
use Rattle.folder_drop.specs.{declared.memory_names.{MemoryName.MemoryName, MemoryNames.MemoryNames}, MemoryFiles.{file_named, place_given}}
use Rattle.folder_drop.proofs.MemoryFilesLemmas.{contains_map, known_more, lacks_place, names_one, now_known, refuses_place}
use Rattle.folder_drop.proofs.memory_files.MemoryFiles.link.Goals as goal

pub returns-in_err-file-clause-links : goal.returns-in_err-file-clause-links
returns-in_err-file-clause-links c =
    let p = err_from_is_err_and c.from_residual.result c.from_residual.ensures.1 in
    let none = c.in_err-file.ensures.err in
    rw (p.1, p.2) (refl, inl (lacks_place c.args.self.now (place_given c.args.from) _ none.0 none.1))

pub returns-in_err-names-clause-links : goal.returns-in_err-names-clause-links
returns-in_err-names-clause-links c =
    let p = err_from_is_err_and c.from_residual-in_err-names.result c.from_residual-in_err-names.ensures.1 in
    rw (p.1, p.2) (refl, inr (refuses_place c.args.self.now (place_given c.args.to) _ c.in_err-names.ensures.err))

pub change-requires : goal.change-requires
change-requires c =
    let d = c.args.self.now in
    known_more (length d.files.items) _ d.names.items.items c.in_ok-names.names.items.items
    (All-contains (λ one. one.file < length d.files.items) d.names.items.items c.in_ok-file.field-0 (now_known d) c.in_ok-file.ensures.ok.0)
    (now_known d) c.in_ok-names.ensures.ok.1

pub returns-clause-links : goal.returns-clause-links
returns-clause-links c =
    let d = c.args.self.now in
    let one = c.in_ok-file.field-0 in
    let new : MemoryName = record { folder = c.args.to.0; name = c.args.to.1; file = one.file } in
    let found = c.in_ok-file.ensures.ok in (
      file_named d.files.items one,
      contains_map (file_named d.files.items) d.names.items.items one found.0,
      found.1,
      (
        c.in_ok-names.ensures.ok.0,
        names_one d c.change.new.self new d.names.items.items c.change.ensures.files
            (subst (λ (names : MemoryNames). IsPermutation (new ∷ d.names.items.items) names.items.items)
            (sym c.in_ok-change.ensures.ok) c.in_ok-names.ensures.ok.1),
      ),
    )
