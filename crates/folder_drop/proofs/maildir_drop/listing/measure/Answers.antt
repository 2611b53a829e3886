use Rattle.std.proofs.Common.{inl, inr}
use Rattle.folder_drop.proofs.maildir_drop.listing.measure.Goals as goal

pub returns-in-None-clause-none : goal.returns-in-None-clause-none
returns-in-None-clause-none g c = (c.stamp.new.seen, inl (rw c.in-None.is at c.in_ok-stamp.ensures))

pub returns-in-None-2-clause-none : goal.returns-in-None-2-clause-none
returns-in-None-2-clause-none g c = (
  c.size_within.new.seen,
  inr (
    c.in-Some.stamp,
    c.size_of-known.result,
    (c.stamp.new.seen, rw c.in-Some.is at c.in_ok-stamp.ensures),
    c.size_of-known.ensures.counted,
    rw c.in-None-2.is at c.in_ok-size.ensures.none,
  ),
)
