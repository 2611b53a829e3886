use Rattle.std.proofs.Common.{refl, inr, []}
use Rattle.folder_store.proofs.kept_file.append_some.Goals as goal

pub returns-then-not-is_empty-clause-appends : goal.returns-then-not-is_empty-clause-appends
returns-then-not-is_empty-clause-appends g c = λ s.
    let (before, same, wrote) = rw c.if-count-eq0.true at (c.in-Ok.ensures.writes s) in
    (before, (same, λ b leads. inr ([], c.args.bytes.now, refl, wrote b leads)))
