use Rattle.getmail_setup.proofs.OutputLemmas.{puts_three}
use Rattle.getmail_setup.proofs.failure.put_text.Goals as goal

pub returns : goal.returns
returns g c =
    puts_three g.E.Write.contents _ _ _ _ _ _ _ c.put.ensures (rw c.as_bytes.ensures.value at c.put-2.ensures) c.put-3.ensures
