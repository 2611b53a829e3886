use Rattle.mail_store.specs.Held.{HasStems}
use Rattle.mail_store.proofs.maildir.held.stems_of.Given as goal

-- the stems of the items so far
abbrev pub invariant-loop-i : goal.invariant-loop-i
invariant-loop-i l = HasStems l.account l.listing l.held l.flags l.i l.stems.items
