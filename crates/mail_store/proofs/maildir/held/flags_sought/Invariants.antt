use Rattle.std.proofs.Common.{◌≡◌, take}
use Rattle.mail_store.specs.Held.{has_text, sought_among}
use Rattle.mail_store.proofs.maildir.held.flags_sought.Given as goal

-- the flags of the items so far
abbrev pub invariant-loop-i : goal.invariant-loop-i
invariant-loop-i l = l.sought.items ≡ sought_among (has_text l.found) (take l.i l.listing) (take l.i l.flags)
