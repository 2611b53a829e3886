use Rattle.std.proofs.Common.{[], append-nil, inr, refl, sym}
use Rattle.getmail_program.proofs.rehearsal.put_stored.Goals as goal

pub returns-in_default : goal.returns-in_default
returns-in_default c = ([], inr (rw c.in_default.is at c.in_ok-uid.ensures.none, refl), sym (append-nil c.args.lines.now.items))
