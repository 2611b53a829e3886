use Rattle.std.proofs.Common.{◌≡◌, map, string_bytes, take}
use Rattle.folder_store.proofs.flush_pass.texts_of.Given as goal

-- the texts so far
abbrev pub invariant-loop-text : goal.invariant-loop-text
invariant-loop-text l = map (λ text. text.now) l.all.items ≡ map string_bytes (take l.text-index l.texts)
