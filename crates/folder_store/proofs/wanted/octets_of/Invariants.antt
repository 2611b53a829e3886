use Rattle.std.proofs.Common.{◌≡◌, ℕ, List, take}
use Rattle.mail_store.specs.Loss.{is_among}
use Rattle.folder_store.specs.Wanted.{has_octets}
use Rattle.folder_store.proofs.wanted.octets_of.Given as goal

-- the octets of those so far
abbrev pub invariant-loop-text : goal.invariant-loop-text
invariant-loop-text l = (text : List ℕ) → has_octets l.all.items text ≡ is_among (take l.text-index l.texts) text
