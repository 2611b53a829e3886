use Rattle.std.{proofs.Common.{◌≡◌, ◌&&◌, ℕ, List, bytes_eq, take}, specs.List.{list_any, zip}}
use Rattle.mail_store.specs.FileName.{stem_of}
use Rattle.folder_store.specs.Wanted.{AreLegal, has_stem_of}
use Rattle.folder_store.proofs.wanted.ids_of.Given as goal

-- the legal ids of the items so far that are asked for
abbrev pub invariant-loop-i : goal.invariant-loop-i
invariant-loop-i l =
    ((text : List ℕ) → has_stem_of l.asked.account.now l.ids.items text
    ≡ list_any (λ asked. asked.1 && bytes_eq (stem_of l.asked.account.now asked.0.uid) text)
    (take l.i (zip l.asked.listing.now l.asked.flags.now))) × AreLegal l.ids.items
