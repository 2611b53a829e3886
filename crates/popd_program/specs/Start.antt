-- The server at the start of a connection.
use Rattle.std.specs.Prelude.{ℕ, List, None}
use Rattle.pop3_server.specs.{ServerMachine.Machine, declared.state.State.TheVariants.Authorization}

-- nobody is logged in yet, and no name was given
abbrev pub at_start : {D : Type 0} → List ℕ → List ℕ → D → Machine D
at_start user password maildrop = record { user = user; pass = password; state = Authorization None; drop = maildrop }
