use Rattle.std.proofs.Common.{◌≡◌, take}
use Rattle.mail_terms.proofs.listing.Listing.join.Given as goal

-- the rows so far
abbrev pub invariant-loop-row : goal.invariant-loop-row
invariant-loop-row l = l.rows ≡ take l.row-index l.uids
