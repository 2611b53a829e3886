use Rattle.std.proofs.lemmas.Result.{IfOk-weaker}
use Rattle.getmail_program.proofs.ending.reasons_on.Goals as goal

pub returns : goal.returns
returns g c = IfOk-weaker c.reasons_said.result _ _ (λ lines is. (c.in_ok-found.found, c.in_ok-found.ensures, is))
    c.reasons_said.ensures
