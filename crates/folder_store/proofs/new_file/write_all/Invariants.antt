use Rattle.std.proofs.Common.{◌≡◌, ◌++◌, ℕ, List}
use Rattle.folder_store.specs.Sound.{WhereFilesSound}
use Rattle.folder_store.proofs.new_file.write_all.Given as goal

abbrev pub invariant-loop : goal.invariant-loop
invariant-loop g l = (front : List ℕ) × (l.bytes ≡ front ++ l.rest) × WhereFilesSound g.M.MadeHandle.sound g.M.MadeHandle.made
    l.fn.file l.file (λ old new. new.content ≡ old.content ++ front)
