use Rattle.std.proofs.Common.{◌≡◌, ◌<◌, subst, ◌++◌, ℕ, List, Some, inl, option_map, refl, Vec, Global, sym, ap, ◌∙◌}
use Rattle.mail_terms.specs.FailureCount.{greatest_count}
use Rattle.mail_store.specs.{Durable.{all_durable, secured}, FlatFile.Stored}
use Rattle.mail_store.proofs.file.memory.MemoryFileFlatFile.append.Goals as goal

pub returns-in-Ok-clause-appends : goal.returns-in-Ok-clause-appends
returns-in-Ok-clause-appends c = λ sound.
    let was = c.in-Some.content.items in
    let is : c.args.self.now.content ≡ Some was =
    sym (ap (λ (f : Stored). f.content) c.self.view_is) ∙ ap (option_map (λ (b : Vec ℕ Global). b.items)) c.in-Some.is in
    let now = ap (λ (l : List ℕ). all_durable (Some l)) c.in-Ok.ensures.items in (
      subst (λ (n : ℕ). n < greatest_count) (ap (λ (f : Stored). f.failures) c.self.view_is) c.in_ok-admit.ensures.admitted,
      (secured was, secured (was ++ c.args.bytes.now), ap (option_map secured) is, refl, now),
    )

pub returns-in-Err-clause-appends : goal.returns-in-Err-clause-appends
returns-in-Err-clause-appends c = λ sound.
    let is : c.args.self.now.content ≡ Some c.in-Some.content.items =
    sym (ap (λ (f : Stored). f.content) c.self.view_is) ∙ ap (option_map (λ (b : Vec ℕ Global). b.items)) c.in-Some.is in (
      subst (λ (n : ℕ). n < greatest_count) (ap (λ (f : Stored). f.failures) c.self.view_is) c.in_ok-admit.ensures.admitted,
      inl (ap all_durable (ap Some c.in-Err.ensures.items ∙ sym is)),
    )
