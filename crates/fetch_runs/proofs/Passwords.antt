-- A plan doesn't depend on the password.
use Rattle.std.{
  proofs.Common.{◌≡◌, inl, inr, ◌++◌, ℕ, Bool, true, false, List, [], ◌∷◌, map, refl, sym, ap, ap₂, append_assoc, ◌∙◌},
  proofs.lemmas.List.map-append,
  specs.List.flat_map,
}
use Rattle.fetch_rules.specs.{Plan.fetches, declared.plans.Step.Step}
use Rattle.pop3_wire.specs.declared.command.Command.{Command, TheVariants.{Dele, ListAll, Pass, Quit, Retr, Stat, UidlAll, User}}
use Rattle.fetch_runs.specs.{
  Conversations.{asked_if, step_commands},
  Passwords.{PasswordsAreInPass, with_word},
}

if_asked : (other : List ℕ) (yes : Bool) (command : Command) → with_word other command ≡ command
    → map (with_word other) (asked_if yes command) ≡ asked_if yes command
if_asked other true command same = ap (λ (c : Command). c ∷ []) same
if_asked other false command same = refl

one_step : (other : List ℕ) (step : Step) → map (with_word other) (step_commands step) ≡ step_commands step
one_step other step = map-append (with_word other) (asked_if (fetches step) (Retr step.number)) (asked_if step.delete (Dele step.number))
    ∙ ap₂ (λ (a b : List Command). a ++ b) (if_asked other (fetches step) (Retr step.number) refl)
    (if_asked other step.delete (Dele step.number) refl)

all_steps : (other : List ℕ) (steps : List Step)
    → map (with_word other) (flat_map step_commands steps ++ Quit ∷ []) ≡ flat_map step_commands steps ++ Quit ∷ []
all_steps other [] = refl
all_steps other (step ∷ steps) = ap (map (with_word other)) (append_assoc (step_commands step) (flat_map step_commands steps) (Quit ∷ []))
    ∙ map-append (with_word other) (step_commands step) (flat_map step_commands steps ++ Quit ∷ [])
    ∙ ap₂ (λ (a b : List Command). a ++ b) (one_step other step) (all_steps other steps)
    ∙ sym (append_assoc (step_commands step) (flat_map step_commands steps) (Quit ∷ []))

abbrev plan_head : List ℕ → List ℕ → List Command → List Command
plan_head name word later = User name ∷ Pass word ∷ Stat ∷ UidlAll ∷ ListAll ∷ later

pub passwords_are_in_pass : PasswordsAreInPass
passwords_are_in_pass = record {
  plans = λ settings other is_odd rows items now. refl;
  commands = λ name word other steps. ap (λ (later : List Command). plan_head name other later) (all_steps other steps);
  sessions = λ settings other account before sent got report effect after s. record {
    sends = s.sends;
    ended = s.ended;
    retrieves = s.retrieves;
    step = elim s.step [
      | inl left ↦ inl left
      | inr (stores, reads) ↦ inr (
        record {
          stored = stores.stored;
          recorded = stores.recorded;
          number = stores.number;
          kept = stores.kept;
          marks = stores.marks;
          came = stores.came;
          rows = stores.rows;
          begun = stores.begun;
          ended = stores.ended;
        },
        reads,
      )
    ];
  };
}
