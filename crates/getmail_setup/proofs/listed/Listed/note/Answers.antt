use Rattle.std.proofs.Common.{Err, Ok, OnErr, OnOk, Result, inl, inr, ◌⊎◌}
use Rattle.getmail_setup.proofs.listed.Listed.note.Goals as goal

done_or_refused : {T E : Type 0} (answer : Result T E) (P Q : Type 0) → OnOk answer P → OnErr answer Q → P ⊎ Q
done_or_refused (Ok done) P Q p q = inl p
done_or_refused (Err fault) P Q p q = inr q

pub returns-in-Body : goal.returns-in-Body
returns-in-Body c = rw c.in-Body.is (done_or_refused c.add.result _ _ c.add.ensures.ok c.add.ensures.err)
