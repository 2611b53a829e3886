use Rattle.std.proofs.Common.{◌≡◌, ◌++◌, take, flat_map}
use Rattle.run_memory.specs.{Lines.notice_line, Memory.with_lf}
use Rattle.run_memory.proofs.memory.put_notices.Given as goal

abbrev pub invariant-loop-notice : goal.invariant-loop-notice
invariant-loop-notice l = l.text.items ≡ l.initial.text.items ++ flat_map (λ notice. with_lf (notice_line notice))
    (take l.notice-index l.notices)
