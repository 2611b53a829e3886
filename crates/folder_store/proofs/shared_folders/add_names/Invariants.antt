use Rattle.std.proofs.Common.{map}
use Rattle.std.specs.Prelude.{string_bytes}
use Rattle.folder_store.specs.SharedCalls.{AddsNames, Did, IsSame}
use Rattle.folder_store.proofs.shared_folders.add_names.Given as goal

abbrev pub invariant-loop-name : goal.invariant-loop-name
invariant-loop-name g l = g.S.SharedCalls.sound l.calls → g.S.SharedCalls.sound l.initial.calls
    × Did IsSame (g.S.SharedCalls.shared l.initial.calls) (g.S.SharedCalls.shared l.calls)
    × AddsNames (g.S.SharedCalls.shared l.initial.calls).directories l.folder (map string_bytes l.yielded) l.initial.found l.found
