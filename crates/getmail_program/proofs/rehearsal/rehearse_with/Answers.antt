use Rattle.getmail_program.proofs.rehearsal.rehearse_with.Goals as goal

pub returns-in-Maildir-clause-ended : goal.returns-in-Maildir-clause-ended
returns-in-Maildir-clause-ended g c = λ zero. rw (c.tell_end.ensures.ended zero) at c.run_in_memory-outcome.ensures
