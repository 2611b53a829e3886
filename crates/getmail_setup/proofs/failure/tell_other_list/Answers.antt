use Rattle.getmail_setup.proofs.OutputLemmas.{puts_five}
use Rattle.getmail_setup.proofs.failure.tell_other_list.Goals as goal

pub returns : goal.returns
returns g c =
    puts_five g.E.Write.contents _ _ _ _ _ _ _ _ _ _ _ c.put.ensures (rw (c.as_bytes.ensures.value) at c.put-2.ensures) c.put-3.ensures
    (rw (c.as_bytes-2.ensures.value) at c.put-4.ensures) c.put-5.ensures
