use Rattle.std.proofs.Common.{inl}
use Rattle.folder_drop.proofs.KnownLemmas.{knows_none}
use Rattle.folder_drop.proofs.maildir_drop.FilesDrop.over.Goals as goal

pub invariant_of-result : goal.invariant_of-result
invariant_of-result g c = λ s. let known = c.of.result in
    knows_none g.D.File.Read.remaining _ _ known.listing known.earlier known.since known.reading c.of.ensures.listing
    (inl c.of.ensures.earlier) c.of.ensures.rest.0 c.of.ensures.rest.1
