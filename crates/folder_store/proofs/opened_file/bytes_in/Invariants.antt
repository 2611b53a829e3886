use Rattle.std.proofs.Common.{◌≤◌, length}
use Rattle.folder_store.specs.{Calls.IsFilled, Sound.WhereFilesStay}
use Rattle.folder_store.proofs.opened_file.bytes_in.Given as goal

abbrev pub invariant-loop : goal.invariant-loop
invariant-loop g l = (l.filled ≤ length l.bytes.items) × WhereFilesStay g.C.FileCalls.sound g.C.FileCalls.tree l.fn.calls l.calls
    (λ tree. IsFilled tree (g.C.File.OpenHandle.opened l.fn.file) l.filled l.bytes.items (g.C.File.OpenHandle.opened l.file))
