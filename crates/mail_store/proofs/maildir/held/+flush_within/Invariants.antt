use Rattle.mail_store.proofs.maildir.held.+flush_within.Given as goal

abbrev pub decreases-flush_within : goal.decreases-flush_within
decreases-flush_within g l = l.times
