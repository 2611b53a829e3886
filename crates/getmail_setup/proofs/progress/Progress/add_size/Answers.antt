use Rattle.std.proofs.Common.{Err, List, Ok, Result, inl, inr, is_ok, refl, sym, ◌∙◌, ◌≡◌, ◌⊎◌, if◌then◌else◌}
use Rattle.getmail_setup.proofs.progress.Progress.add_size.Goals as goal

pushed : {T E X : Type 0} (answer : Result T E) (more same new : List X) → new ≡ (if is_ok answer then more else same)
    → (new ≡ more) ⊎ (new ≡ same)
pushed (Ok done) more same new is = inl is
pushed (Err fault) more same new is = inr is

pub returns-in-Some : goal.returns-in-Some
returns-in-Some c = rw (sym c.next_size.ensures ∙ c.in-Some.is) (refl, pushed c.push.result _ _ _ c.push.ensures.items)
