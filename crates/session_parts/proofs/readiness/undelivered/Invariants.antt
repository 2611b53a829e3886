use Rattle.std.proofs.Common.{◌≡◌, map, not, take}
use Rattle.mail_terms.specs.Listing.{Item}
use Rattle.fetch_record.specs.Record.{is_delivered}
use Rattle.session_parts.proofs.readiness.undelivered.Given as goal

-- the flags of the items so far
abbrev pub invariant-loop-i : goal.invariant-loop-i
invariant-loop-i g l = l.flags.items ≡ map (λ (item : Item). not (is_delivered l.seen.rows item.uid)) (take l.i l.listing)
