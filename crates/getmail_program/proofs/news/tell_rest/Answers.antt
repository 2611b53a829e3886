use Rattle.std.proofs.Common.{inl, inr, refl}
use Rattle.getmail_program.proofs.news.tell_rest.Goals as goal

pub returns-in-Ok : goal.returns-in-Ok
returns-in-Ok g c = (_, inl c.in-Ok.ensures, rw c.deref.ensures.value at c.put.ensures)

pub returns-in-Err : goal.returns-in-Err
returns-in-Err g c = (_, inr refl, rw (c.as_bytes.ensures.value, c.lack_text.ensures) at c.put-in-Err.ensures)
