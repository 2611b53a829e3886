use Rattle.std.proofs.Common.{refl}
use Rattle.getmail_program.proofs.errand.tell_rests.Goals as goal

pub returns-then-is_kept : goal.returns-then-is_kept
returns-then-is_kept g c =
    rw c.if-is_kept.true (c.take_line.new.self, rw c.as_bytes.ensures.value at c.take_line.ensures, refl)
