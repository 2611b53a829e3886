use Rattle.std.proofs.{
  Common.{◌∙◌, ◌<◌, ◌∷◌, [], ap, arith, inr, length, refl, subst, sym},
  lemmas.{List.{Elements.All-weaker, length_push}, Result.err_from_is_err_and},
}
use Rattle.std.specs.List.Sorted.{IsPermutation}
use Rattle.folder_drop.specs.declared.memory_names.{MemoryName.MemoryName, MemoryNames.MemoryNames}
use Rattle.folder_drop.proofs.MemoryFilesLemmas.{known_more, looked_changed, looked_same, now_known, puts_none, puts_one, refuses_place}
use Rattle.folder_drop.proofs.memory_files.MemoryFiles.add.Goals as goal

pub returns-in_err-names-clause-puts : goal.returns-in_err-names-clause-puts
returns-in_err-names-clause-puts c =
    let p = err_from_is_err_and c.from_residual.result c.from_residual.ensures.1 in
    rw (p.1, p.2) (refl, refuses_place c.args.self.now (c.args.folder, c.args.name.now) _ c.in_err-names.ensures.err)

pub change-requires : goal.change-requires
change-requires c =
    let d = c.args.self.now in
    let own = c.len.ensures in
    let long = d.files.ok.0 in
    let more = length_push d.files.items c.args.file in
    let items = ap (λ l. length l) c.in_ok-push.ensures.items in
    known_more (length c.push.new.self.items) _ d.names.items.items c.in_ok-names.names.items.items
    (omega (arith, own, long, more, items))
    (All-weaker (λ one. one.file < length d.files.items) (λ one. one.file < length c.push.new.self.items)
    (λ one lt. omega (arith, lt, more, items)) d.names.items.items (now_known d)) c.in_ok-names.ensures.ok.1

pub returns-in_err-change-clause-puts : goal.returns-in_err-change-clause-puts
returns-in_err-change-clause-puts c =
    let p = err_from_is_err_and c.from_residual-in_err-change.result c.from_residual-in_err-change.ensures.1 in
    let files = ap (λ v. v.items) c.change.ensures.files ∙ c.in_ok-push.ensures.items in
    rw p.1 (
      puts_none c.args.self.now c.change.new.self (c.args.file ∷ []) files c.in_err-change.ensures.err.0,
      inr (inr p.2),
    )

pub returns-in_err-change-clause-stays : goal.returns-in_err-change-clause-stays
returns-in_err-change-clause-stays c =
    let files = ap (λ v. v.items) c.change.ensures.files ∙ c.in_ok-push.ensures.items in
    let same = c.in_err-change.ensures.err in
    looked_same c.args.self.now c.change.new.self (c.args.file ∷ []) files same.0 same.1

pub returns-clause-puts : goal.returns-clause-puts
returns-clause-puts c =
    let d = c.args.self.now in
    let files = ap (λ v. v.items) c.change.ensures.files ∙ c.in_ok-push.ensures.items in
    let new : MemoryName = record { folder = c.args.folder; name = c.args.name; file = c.len.result } in (
      c.in_ok-names.ensures.ok.0,
      puts_one d c.change.new.self new c.args.file (c.len.ensures ∙ d.files.ok.0) files
          (subst (λ (names : MemoryNames). IsPermutation (new ∷ d.names.items.items) names.items.items)
          (sym c.in_ok-change.ensures.ok) c.in_ok-names.ensures.ok.1),
    )

pub returns-clause-stays : goal.returns-clause-stays
returns-clause-stays c =
    let files = ap (λ v. v.items) c.change.ensures.files ∙ c.in_ok-push.ensures.items in
    looked_changed c.args.self.now c.change.new.self (c.args.file ∷ []) files c.in_ok-change.ensures.past
