use Rattle.std.proofs.Common.{map}
use Rattle.std.specs.{List.All, Prelude.string_bytes}
use Rattle.folder_store.specs.Sweep.{IsDealtWith}
use Rattle.folder_store.proofs.sweep.sweep_names.Given as goal

abbrev pub invariant-loop-name : goal.invariant-loop-name
invariant-loop-name g l = All (IsDealtWith (g.F.SweptFolder.front l.folder) l.now (g.F.SweptFolder.told l.folder)
    (g.F.SweptFolder.removes l.folder)) (map string_bytes l.yielded)
