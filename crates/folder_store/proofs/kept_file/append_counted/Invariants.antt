use Rattle.std.proofs.Common.{◌≡◌, ◌++◌, ℕ, List}
use Rattle.folder_store.specs.{Calls.IsAppendedSoFar, Sound.WhereFilesSound}
use Rattle.folder_store.proofs.kept_file.append_counted.Given as goal

abbrev pub invariant-loop : goal.invariant-loop
invariant-loop g l = (front : List ℕ) × (l.bytes ≡ front ++ l.rest) × WhereFilesSound g.C.FileCalls.sound g.C.FileCalls.tree
    l.fn.calls l.calls (λ old new. (g.C.File.OpenHandle.opened l.file ≡ g.C.File.OpenHandle.opened l.fn.file)
    × IsAppendedSoFar old (g.C.File.OpenHandle.opened l.fn.file) front new)
