use Rattle.std.proofs.Common.{sym, ◌∙◌}
use Rattle.getmail_setup.proofs.OutputLemmas.{puts_three}
use Rattle.getmail_setup.proofs.failure.put_peer.Goals as goal

pub returns : goal.returns
returns g c =
    rw (sym c.is_socket.ensures ∙ c.if-is_socket.false) (puts_three g.E.Write.contents _ _ _ _ _ _ _
    (rw c.as_bytes-2.ensures.value at c.put-2.ensures) c.put-3.ensures (rw c.from.ensures at c.put_number.ensures))
