use Rattle.std.proofs.Common.{refl, inr}
use Rattle.folder_store.proofs.cut_off.cut_keeping.Goals as goal

pub returns-in-Some-clause-keeps : goal.returns-in-Some-clause-keeps
returns-in-Some-clause-keeps g c =
    rw c.in-Some.is (inr (c.if-not-cut_off.true, (c.cut.new.self, refl, c.cut.ensures.keeps)))
