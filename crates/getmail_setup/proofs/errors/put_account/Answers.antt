use Rattle.getmail_setup.proofs.OutputLemmas.{puts_both, puts_three}
use Rattle.getmail_setup.proofs.errors.put_account.Goals as goal

pub returns : goal.returns
returns g c =
    rw c.in-Some.is (puts_both g.E.Write.contents _ _ _ _ _ (puts_three g.E.Write.contents _ _ _ _ _ _ _
    (rw c.as_bytes.ensures.value at c.put-2.ensures) c.put-3.ensures (rw c.as_str.ensures.value at c.put_peer.ensures))
    c.put-4.ensures)
