use Rattle.getmail_program.proofs.EarlyLemmas.{no_deletion}
use Rattle.getmail_program.proofs.teller.Teller.tell.Goals as goal

pub returns-clause-wrote : goal.returns-clause-wrote
returns-clause-wrote g c = rw (no_deletion c.args.line.now c.in_default.not-Deleted)
    (c.put.ensures.wrote _ (rw c.deref.ensures.value at c.explained_line-text.ensures))
