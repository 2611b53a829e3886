use Rattle.std.proofs.Common.{inl, refl}
use Rattle.folder_drop.proofs.RemovalLemmas.{false_from, true_from}
use Rattle.folder_drop.proofs.finding.stamp.Goals as goal

pub returns-then-not-found : goal.returns-then-not-found
returns-then-not-found g c = inl (
  (c.in-Some.field-0-0, c.in-Some.found),
  (rw c.as_str.ensures.value at (rw c.in-Some.is at c.in_ok-found.ensures.there)),
  false_from c.in-Some.found.is_regular c.if-not-found.true,
)

pub returns : goal.returns
returns g c = (
  (c.in-Some.field-0-0, c.in-Some.found),
  (rw c.as_str.ensures.value at (rw c.in-Some.is at c.in_ok-found.ensures.there)),
  true_from c.in-Some.found.is_regular c.if-not-found.false,
  refl,
)
