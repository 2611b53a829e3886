use Rattle.std.proofs.Common.{List, ℕ, Bor, None, inl, inr, option_map}
use Rattle.getmail_setup.specs.declared.failure.Failure.TheVariants.{NoMemory}
use Rattle.getmail_program.proofs.fetch.set_up_safely.Goals as goal

pub returns-in_default-clause-err : goal.returns-in_default-clause-err
returns-in_default-clause-err g c = (None, inl (NoMemory, tt, c.fail.ensures.status))

pub returns-in-Some-clause-err : goal.returns-in-Some-clause-err
returns-in-Some-clause-err g c = (None, inl (NoMemory, tt, c.in-Some.ensures))

pub returns-in-Err-clause-err : goal.returns-in-Err-clause-err
returns-in-Err-clause-err g c = (
  option_map {T = Bor (List ℕ)} {U = List ℕ} (λ text. text.now) c.as_deref-home.result,
  inl (c.in-Err.failure, c.in-Err.ensures.err, c.fail-in-Err.ensures.status),
)

pub returns-in-Some-stop_at_places-clause-err : goal.returns-in-Some-stop_at_places-clause-err
returns-in-Some-stop_at_places-clause-err g c = (
  option_map {T = Bor (List ℕ)} {U = List ℕ} (λ text. text.now) c.as_deref-home.result,
  inr (c.in-Ok-set_up.setup, c.in-Ok-set_up.ensures.ok, inr (NoMemory, c.in-Some-stop_at_places.ensures)),
)

pub returns-in-Some-stop_in_place-clause-err : goal.returns-in-Some-stop_in_place-clause-err
returns-in-Some-stop_in_place-clause-err g c = (
  option_map {T = Bor (List ℕ)} {U = List ℕ} (λ text. text.now) c.as_deref-home.result,
  inr (c.in-Ok-set_up.setup, c.in-Ok-set_up.ensures.ok, inr (NoMemory, c.in-Some-stop_in_place.ensures.status)),
)
