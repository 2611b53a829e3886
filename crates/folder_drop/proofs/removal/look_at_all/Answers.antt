use Rattle.std.proofs.{Common.{◌≡◌, ◌∙◌, ◌++◌, ◌∷◌, ◌+◌, [], List, ap, subst, sym, take}, lemmas.List.take_more}
use Rattle.folder_drop.specs.{
  declared.{maildir_names.PlacedFile.PlacedFile, removal.Namesake.Namesake},
  Removal.AreNamesakes,
}
use Rattle.folder_drop.proofs.RemovalLemmas.{looked_more}
use Rattle.folder_drop.proofs.removal.look_at_all.Goals as goal

pub loop-file-preserved : goal.loop-file-preserved
loop-file-preserved g c =
    let found = g.D.MailFiles.found c.args.files.now in
    let seen = c.args.seen.now in
    let i = c.loop-file.file-index in
    let file = c.file-item.result in
    let more : take (i + 1) seen ≡ take i seen ++ file ∷ [] = take_more seen i file c.loop-file-test.true
    ∙ ap (λ (f : PlacedFile). take i seen ++ f ∷ []) (sym c.file-item.is) in
    subst (λ (s : List PlacedFile). AreNamesakes found c.args.listed.now s c.add.new.files.items) (sym more)
    (subst (λ (f : List Namesake). AreNamesakes found c.args.listed.now (take i seen ++ file ∷ []) f) (sym c.in_ok-add.ensures)
    (looked_more found c.args.listed.now (take i seen) c.loop-file.found.items file c.in_ok-namesake.namesake c.in_ok-namesake.ensures
    c.loop-file.invariant))
