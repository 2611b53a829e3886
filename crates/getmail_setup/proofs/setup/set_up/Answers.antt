use Rattle.std.proofs.{Common.{rules, ℕ, List, option_map, Bor}, lemmas.Result.err_from_is_err_and}
use Rattle.getmail_setup.{specs.Places.AreRead, proofs.SetupLemmas.no_places}
use Rattle.getmail_setup.proofs.setup.set_up.Goals as goal

pub returns-in_err-paths-clause-err : goal.returns-in_err-paths-clause-err
returns-in_err-paths-clause-err g c =
    let p = err_from_is_err_and c.from_residual-in_err-paths.result c.from_residual-in_err-paths.ensures.1 in
    let read : AreRead (g.S.ReadFile.gave c.args.files.now)
    (option_map {T = Bor (List ℕ)} {U = List ℕ} (λ text. text.now) c.args.home) c.args.words.now c.in_ok-settings.settings = search rules in
    rw (p.1, p.2) (no_places _ _ _ _ _ _ read c.in_err-paths.ensures.err)
