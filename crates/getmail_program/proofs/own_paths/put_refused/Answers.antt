use Rattle.getmail_program.proofs.OutputLemmas.{puts_both}
use Rattle.getmail_program.proofs.own_paths.put_refused.Goals as goal

pub returns : goal.returns
returns g c = puts_both g.E.Write.contents _ _ _ _ _ c.tell_reason.ensures c.put_each_run.ensures
