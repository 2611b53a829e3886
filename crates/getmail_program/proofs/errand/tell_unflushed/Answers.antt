use Rattle.std.proofs.Common.{refl}
use Rattle.getmail_program.proofs.errand.tell_unflushed.Goals as goal

pub returns-in-Some : goal.returns-in-Some
returns-in-Some g c = rw c.in-Some.is (c.take_line.new.self, c.take_line.ensures, refl)
