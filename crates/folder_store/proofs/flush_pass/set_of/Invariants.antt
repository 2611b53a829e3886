use Rattle.std.proofs.Common.{◌≡◌, ℕ, List, take}
use Rattle.mail_store.specs.Held.{has_text}
use Rattle.folder_store.specs.Wanted.{has_octets}
use Rattle.folder_store.proofs.flush_pass.set_of.Given as goal

-- the set has the texts so far
abbrev pub invariant-loop-text : goal.invariant-loop-text
invariant-loop-text l = (q : List ℕ) → has_text l.set q ≡ has_octets (take l.text-index l.texts) q
