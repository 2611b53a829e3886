use Rattle.getmail_setup.proofs.OutputLemmas.{puts_both}
use Rattle.getmail_setup.proofs.errors.put_unlocked.Goals as goal

pub returns : goal.returns
returns g c =
    puts_both g.E.Write.contents _ _ _ _ _ c.tell_reason.ensures c.tell_lock_hint.ensures
