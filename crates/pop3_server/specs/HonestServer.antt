-- If the commands are a session's, conversations of the server are honest.
use Rattle.std.specs.{
  Prelude.{◌≡◌, ◌⊎◌, ℕ, Bool, true, List, [], ◌∷◌, ◌++◌, map, None, if◌then◌else◌},
  List.{flat_map, AllByRecursion},
}
use Rattle.pop3_wire.specs.{
  declared.{command.Command.{Command, TheVariants.{UidlOne, ListOne, Top, Quit}}, reply.Status.TheVariants.Positive},
  Line.ended,
  Reply.indicator,
  CommandLine.HasNumbers,
  Honest.Honest,
  Commands.{line_of, can_be_sent},
  World.{Message, IsMessage},
}
use Rattle.pop3_server.specs.{
  declared.state.State.{State, TheVariants.Authorization},
  Maildrop.{DropMail, there},
  ServerMachine.{Machine, greeting_line, is_open},
  AnswersLines.{AnswersLine, AnswersLines},
}

-- what a session sends: the commands of its plan, and RSET
abbrev pub IsOfSession : Command → Type 0
IsOfSession (UidlOne number) = ⊥
IsOfSession (ListOne number) = ⊥
IsOfSession (Top number lines) = ⊥
IsOfSession command = Unit {0}

-- a command of a session that can be sent
pub record IsAsked (command : Command) : Type 0 where
  pub of_session : IsOfSession command
  pub numbers : HasNumbers command
  pub sendable : can_be_sent command ≡ true

abbrev pub command_lines : List Command → List (List ℕ)
command_lines commands = map line_of commands

-- all of these messages that aren't marked are there, and perhaps some of the marked ones, in their order
abbrev pub AreLeftByQuit : List Message → List Bool → List Message → Type 0
AreLeftByQuit [] marks after = after ≡ []
AreLeftByQuit (m ∷ ms) [] after = ⊥
AreLeftByQuit (m ∷ ms) (mark ∷ marks) after = ((rest : List Message) × (after ≡ m ∷ rest) × AreLeftByQuit ms marks rest)
    ⊎ ((mark ≡ true) × AreLeftByQuit ms marks after)

-- only marked messages are gone, and none while the server is open
pub record Gone (before : List Message) (marks : List Bool) (state : State) (after : List Message) : Type 0 where
  pub left : AreLeftByQuit before marks after
  pub before_quit : is_open state ≡ true → after ≡ before

-- the server is open, or QUIT is one of these commands
abbrev pub IsClosedByQuit : State → List Command → Type 0
IsClosedByQuit state commands = (is_open state ≡ true)
    ⊎ ((front behind : List Command) × (commands ≡ front ++ Quit ∷ behind))

-- the messages that aren't marked
abbrev pub unmarked_of : List Message → List Bool → List Message
unmarked_of [] marks = []
unmarked_of (m ∷ ms) [] = []
unmarked_of (m ∷ ms) (mark ∷ marks) = if mark then unmarked_of ms marks else m ∷ unmarked_of ms marks

-- if the next answer is a positive one to QUIT, just those that aren't marked are left
abbrev pub RemovesAtQuit : {D : Type 0} → (D → Type 0) → (D → DropMail) → List Message → List Bool → Machine D → Type 0
RemovesAtQuit {D} sound mail before marks server = (last : Machine D) (answer rest : List ℕ)
    → AnswersLine sound mail server (line_of Quit) answer last → answer ≡ indicator Positive ++ rest
    → sound last.drop → there (mail last.drop).slots ≡ unmarked_of before marks

-- a new server's greeting and its answers to these commands are an honest conversation over its maildrop's
-- messages, and what is gone afterwards was marked; with a positive answer to QUIT, all that is marked goes
abbrev pub ConversesHonestly : {D : Type 0} → (D → Type 0) → (D → DropMail) → Type 0
ConversesHonestly {D} sound mail = (old new : Machine D) (commands : List Command) (answers : List ℕ)
    → old.state ≡ Authorization None → AllByRecursion IsAsked commands
    → AnswersLines sound mail old (command_lines commands) answers new
    → sound new.drop → AllByRecursion IsMessage (there (mail old.drop).slots)
    → (marks : List Bool) × Honest (there (mail old.drop).slots) (flat_map ended (command_lines commands))
    (greeting_line ++ answers) marks
    × Gone (there (mail old.drop).slots) marks new.state (there (mail new.drop).slots)
    × RemovesAtQuit sound mail (there (mail old.drop).slots) marks new
