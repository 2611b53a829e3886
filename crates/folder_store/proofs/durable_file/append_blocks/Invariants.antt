use Rattle.std.proofs.Common.{◌≡◌, ◌++◌, ℕ, List, length}
use Rattle.mail_store.specs.DiskCalls.{Becomes, IsAppended}
use Rattle.folder_store.specs.Sound.{WhereFileSound}
use Rattle.folder_store.proofs.durable_file.append_blocks.Given as goal

abbrev pub invariant-loop-rest : goal.invariant-loop-rest
invariant-loop-rest g l =
    (done : List ℕ) × (l.bytes ≡ done ++ l.rest) × WhereFileSound g.F.FolderState.sound
    g.F.FolderState.directory l.name l.fn.folder l.folder (Becomes (IsAppended done))

abbrev pub decreases-loop-rest : goal.decreases-loop-rest
decreases-loop-rest g l = length l.rest
