use Rattle.std.proofs.Common.{◌≡◌, ℕ, List, take, ◌||◌}
use Rattle.mail_store.specs.Held.{has_text}
use Rattle.folder_store.specs.FlushPass.{has_flushed, has_missed}
use Rattle.folder_store.proofs.flush_pass.add_stems.Given as goal

-- the sets have what they had, and the stems of the files so far
abbrev pub invariant-loop-file : goal.invariant-loop-file
invariant-loop-file l =
    ((q : List ℕ) → has_text l.flushed q ≡ (has_text l.initial.flushed q || has_flushed (take l.file-index l.found) q))
    × ((q : List ℕ) → has_text l.missed q ≡ (has_text l.initial.missed q || has_missed (take l.file-index l.found) q))
