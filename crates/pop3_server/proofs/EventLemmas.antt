-- What happened, by the states before and after.
use Rattle.std.proofs.Common.{◌≡◌, ℕ, refl, None}
use Rattle.pop3_server.specs.{declared.state.State.{State, TheVariants.{Authorization, Transaction}}, Events.event_of}

-- if a state stays as it is, nothing happened
pub event_of_same : (state : State) (refused : ℕ) → event_of state state refused ≡ None
event_of_same (Authorization None) refused = refl
event_of_same (Transaction rows) refused = refl
event_of_same _ refused = refl
