-- What a link to a new server gives is honest, even if its last answers are lost.
use Rattle.std.specs.{Prelude.{◌≡◌, ℕ, Bool, List, [], ◌++◌, None}, List.{flat_map, AllByRecursion}}
use Rattle.pop3_wire.specs.{declared.command.Command.Command, World.IsMessage, Honest.Honest, Line.{IsLine, ended}}
use Rattle.pop3_server.specs.{
  declared.state.State.TheVariants.Authorization,
  ServerMachine.greeting_line,
  Maildrop.{DropMail, there},
  HonestServer.{IsAsked, Gone, IsClosedByQuit, command_lines},
  LoopLink.{Loop, Serves},
}

-- a link to a new server, to which nothing was sent yet
pub record IsUnused {D : Type 0} (loop : Loop D) : Type 0 where
  pub state : loop.machine.state ≡ Authorization None
  pub sent : loop.link.sent ≡ []
  pub got : loop.link.got ≡ []
  pub answers : loop.answers ≡ []
  pub left : loop.left ≡ greeting_line
  pub waiting : loop.waiting ≡ []

-- if whole commands of a session and a part of one more were sent, what was got is honest, what is gone was
-- marked, and only QUIT closes the server
abbrev pub GivesHonest : {D : Type 0} → (D → Type 0) → (D → DropMail) → Type 0
GivesHonest {D} sound mail = (old new : Loop D) (commands : List Command) (part : List ℕ)
    → IsUnused old → Serves sound mail old new → AllByRecursion IsAsked commands → IsLine part
    → new.link.sent ≡ flat_map ended (command_lines commands) ++ part
    → sound new.machine.drop → AllByRecursion IsMessage (there (mail old.machine.drop).slots)
    → (marks : List Bool) × (honest : Honest (there (mail old.machine.drop).slots) new.link.sent new.link.got marks)
    × Gone (there (mail old.machine.drop).slots) marks new.machine.state (there (mail new.machine.drop).slots)
    × IsClosedByQuit new.machine.state honest.commands
