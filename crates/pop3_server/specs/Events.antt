-- The events of a session, for a log.
use Rattle.std.specs.Prelude.{ℕ, zero, suc, ◌-◌, length, Option, Some, None}
use Rattle.pop3_server.specs.{
  declared.journal.Event.{Event, TheVariants.{LoggedIn, Refused, Unavailable, Left}},
  declared.state.State.{State, TheVariants.{Authorization, Transaction, Closed}},
  ServerMachine.left_count,
}

-- the event between one state and the next, if the maildrop refused this number of calls in between
abbrev pub event_of : State → State → ℕ → Option Event
event_of (Authorization given) (Transaction rows) refused = Some (LoggedIn (length rows))
event_of (Authorization (Some name)) (Authorization None) zero = Some Refused
event_of (Authorization (Some name)) (Authorization None) (suc refused) = Some Unavailable
event_of (Transaction rows) Closed refused = Some (Left (length rows - left_count rows - refused) refused)
event_of before after refused = None
