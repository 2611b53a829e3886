-- Lines that were taken one by one.
use Rattle.std.proofs.Common.{List, ℕ, [], ◌∷◌, ◌++◌, subst}
use Rattle.getmail_setup.specs.declared.journal.Subject.{Subject}
use Rattle.getmail_program.specs.Noticing.{NoticeLine, TakesEach}

pub takes_both : {T : Type 0} (took : T → Subject → List ℕ → T → Type 0) (first second : List NoticeLine) (old mid new : T)
    → TakesEach took first old mid → TakesEach took second mid new → TakesEach took (first ++ second) old new
takes_both {T} took [] second old mid new one two = subst (λ (x : T). TakesEach took second x new) one two
takes_both {T} took (line ∷ lines) second old mid new (next, is, rest) two =
    (next, is, takes_both took lines second next mid new rest two)
