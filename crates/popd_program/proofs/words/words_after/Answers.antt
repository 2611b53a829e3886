use Rattle.std.proofs.{Common.{◌∙◌, ℕ, List, [], Option, ap, codes, unwrap_or}, lemmas.Result.IfOk-weaker}
use Rattle.clap.{specs.Words.found_of, proofs.WalkLemmas.raw_values-rows}
use Rattle.popd_program.proofs.words.words_after.Goals as goal

pub returns-in-None : goal.returns-in-None
returns-in-None c =
    rw c.new.ensures.items (ap (λ (texts : Option (List (List ℕ))). unwrap_or texts []) (c.in-None.ensures
    ∙ raw_values-rows (found_of c.args.matches.now) (codes "more")))

pub returns-in-Some : goal.returns-in-Some
returns-in-Some c =
    IfOk-weaker c.copies.result _ _ (λ more copied. copied ∙ ap (λ (texts : Option (List (List ℕ))). unwrap_or texts []) (c.in-Some.ensures
    ∙ raw_values-rows (found_of c.args.matches.now) (codes "more"))) c.copies.ensures
