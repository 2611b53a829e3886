use Rattle.probe.proofs.stores.time_deliver.Given as goal

-- nothing is known of the Maildir
abbrev pub invariant-loop-number : goal.invariant-loop-number
invariant-loop-number g l = g.D.MaildirDisk.sound l.disk → ⊥
