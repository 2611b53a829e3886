use Rattle.std.proofs.Common.{◌<◌, map, vec_len}
use Rattle.std.specs.Prelude.{string_bytes}
use Rattle.folder_store.specs.SharedCalls.{Did, AreUnflushed, IsSame, borrowed_texts}
use Rattle.folder_store.proofs.shared_folders.flush_files.Given as goal

-- nothing was flushed so far, and after a pass some of the stems are left
abbrev pub invariant-loop : goal.invariant-loop
invariant-loop g l = (0 < l.counter → 0 < vec_len l.left)
    × (g.S.SharedCalls.sound l.calls → g.S.SharedCalls.sound l.initial.calls
    × Did IsSame (g.S.SharedCalls.shared l.initial.calls) (g.S.SharedCalls.shared l.calls)
    × AreUnflushed (g.S.SharedCalls.was_left l.calls) (map string_bytes l.stems) l.counter (borrowed_texts l.left.items))
