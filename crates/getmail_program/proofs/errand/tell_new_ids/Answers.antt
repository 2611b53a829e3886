use Rattle.std.proofs.Common.{refl}
use Rattle.getmail_program.proofs.errand.tell_new_ids.Goals as goal

pub returns-then-has_new_ids : goal.returns-then-has_new_ids
returns-then-has_new_ids g c =
    rw c.if-has_new_ids.true (c.take_line.new.self, c.take_line.ensures, refl)
