use Rattle.std.{
  proofs.Common.{◌≡◌, ◌∷◌, [], ◌++◌, map, sym, ◌∙◌, true, false},
  proofs.lemmas.{Bool.{MatchBool-at_false, not-true, not-false}, List.map-append},
  specs.HashSet.{contains, IsUnchanged},
}
use Rattle.rc_file.{
  specs.{RcMeaning.warned, RowReading.row_of, WarningSearch.{name_eq, warning_of}},
  proofs.RcMeaningLemmas.{tells_new, tells_again},
}
use Rattle.rc_file.proofs.warning.tell.Goals as goal

pub returns-then-not-branch : goal.returns-then-not-branch
returns-then-not-branch c =
    let old : c.in_ok-insert.field-0 ≡ false = c.if-not-branch.true in
    let there : contains name_eq c.args.told.now c.name.result ≡ true = not-false _ (sym c.in_ok-insert.ensures.added ∙ old) in
    tells_again (warned (row_of c.args.row.now)) (map warning_of c.args.warnings.now.items) c.args.told.now c.insert.new.self c.name.result
    c.name.ensures.section c.name.ensures.key there
    (MatchBool-at_false _ (IsUnchanged c.args.told.now c.insert.new.self) old c.in_ok-insert.ensures.unchanged)

pub returns : goal.returns
returns c =
    let fresh : c.in_ok-insert.field-0 ≡ true = c.if-not-branch.false in
    let absent : contains name_eq c.args.told.now c.name.result ≡ false = not-true _ (sym c.in_ok-insert.ensures.added ∙ fresh) in
    let found : map warning_of c.push.new.self.items ≡ map warning_of c.args.warnings.now.items ++ (warned (row_of c.args.row.now) ∷ []) =
    simp (c.in_ok-push.ensures.items, map-append, c.in_ok-warning.ensures) in
    rw found (tells_new (warned (row_of c.args.row.now)) _ c.args.told.now c.insert.new.self c.name.result
    c.name.ensures.section c.name.ensures.key absent c.in_ok-insert.ensures.updates.0)
