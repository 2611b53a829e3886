-- What ends a session that is served over a link: a line QUIT.
use Rattle.std.specs.{Prelude.{◌≡◌, ℕ, true, false, List, [], ◌∷◌, ◌++◌, Result, Ok}, List.{flat_map, AllByRecursion}}
use Rattle.pop3_wire.specs.{
  declared.command.Command.TheVariants.Quit,
  CommandLine.command_of,
  Link.Link,
  Line.{IsLine, ended},
}
use Rattle.pop3_server.specs.{
  declared.fault.ServerFault.ServerFault,
  Maildrop.DropMail,
  Serving.ServedLines,
  ServerMachine.{Machine, is_open},
}

-- of the lines that were read meanwhile, one is QUIT
pub record ReadsQuit (old new : Link) : Type 0 where
  pub before : List (List ℕ)
  pub line : List ℕ
  pub rest : List ℕ
  pub each : AllByRecursion IsLine (before ++ line ∷ [])
  pub is : command_of line ≡ Ok Quit
  pub got : new.got ≡ old.got ++ (flat_map ended (before ++ line ∷ []) ++ rest)

-- a server that was open before a link was served, and isn't after it, read QUIT there
abbrev pub OnlyQuitCloses : {D : Type 0} → (D → Type 0) → (D → DropMail) → Type 0
OnlyQuitCloses {D} sound mail = (old new : Machine D) (before after : Link) (result : Result (Unit {0}) ServerFault)
    → ServedLines sound mail old before result new after → is_open old.state ≡ true → is_open new.state ≡ false
    → ReadsQuit before after
