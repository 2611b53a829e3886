-- How many removals a Maildir was asked for once sessions were served over it, and what one of them leaves.
use Rattle.std.specs.Prelude.{◌≡◌, ℕ, Option, None, Some, Result}
use Rattle.pop3_wire.specs.Link.{Link}
use Rattle.pop3_server.specs.{
  declared.{fault.ServerFault.ServerFault, maildrop.Maildrop.Ghosts as DropGhosts},
  ServerMachine.Machine,
  Serving.ServedLines,
}
use Rattle.popd_program.specs.declared.visit.Quit.{Quit}

-- as many as the session that came to QUIT left, or as before
abbrev pub removals_by : Option Quit → ℕ → ℕ
removals_by None before = before
removals_by (Some quit) before = quit.removals

-- the maildrop is left as the lines that the server was served left it, and nothing was done to it after them
abbrev pub LeavesDrop : {D : Type 0} → DropGhosts D → Machine D → Link → Result (Unit {0}) ServerFault → D → Link
    → Type 0
LeavesDrop {D} drop old before result left after =
    (new : Machine D) × ServedLines drop.sound drop.mail old before result new after × (new.drop ≡ left)
