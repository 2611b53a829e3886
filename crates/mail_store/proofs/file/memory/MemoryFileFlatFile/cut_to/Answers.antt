use Rattle.std.proofs.Common.{◌≡◌, ◌<◌, subst, ◌∙◌, ℕ, List, Some, Vec, Global, refl, take, option_map, sym, ap}
use Rattle.mail_terms.specs.FailureCount.{greatest_count}
use Rattle.mail_store.specs.{Durable.{all_durable, secured}, FlatFile.Stored}
use Rattle.mail_store.proofs.file.memory.MemoryFileFlatFile.cut_to.Goals as goal

pub returns-clause-cuts : goal.returns-clause-cuts
returns-clause-cuts c = λ sound.
    let was = c.in-Some.content.items in
    let is : c.args.self.now.content ≡ Some was =
    sym (ap (λ (f : Stored). f.content) c.self.view_is) ∙ ap (option_map (λ (b : Vec ℕ Global). b.items)) c.in-Some.is in (
      subst (λ (n : ℕ). n < greatest_count) (ap (λ (f : Stored). f.failures) c.self.view_is) c.in_ok-admit.ensures.admitted,
      (
        secured was,
        secured (take c.args.len was),
        ap (option_map secured) is,
        refl,
        ap (λ (l : List ℕ). all_durable (Some l)) c.truncate.ensures.items,
      ),
    )
