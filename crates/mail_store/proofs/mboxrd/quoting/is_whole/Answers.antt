use Rattle.std.proofs.{Common.{[], ◌∷◌, arith}, lemmas.{Bool.Decides.Decides-eqb, Slice.Eq.ends_is}}
use Rattle.mail_store.proofs.mboxrd.quoting.is_whole.Goals as goal

pub returns-else-is_empty : goal.returns-else-is_empty
returns-else-is_empty c =
    let ends = ends_is Decides-eqb c.args.text.now (10 ∷ []) c.ends_with.result c.ends_with.ensures.value in
    grind arith
