use Rattle.std.proofs.Common.{map, ◌≡◌, take, string_bytes}
use Rattle.popd_program.proofs.words.copies.Given as goal

-- the texts copied so far are those in front
abbrev pub invariant-loop-text : goal.invariant-loop-text
invariant-loop-text l = map string_bytes l.owned.items ≡ map (λ t. t.now) (take l.text-index l.texts)
