-- One session over a server in memory.
use Rattle.std.specs.{Prelude.{◌≡◌, ◌⊎◌, ℕ, true, false, List, [], ◌∷◌, ◌++◌, None}, List.AllByRecursion}
use Rattle.pop3_wire.specs.{
  declared.{command.Command.{Command, TheVariants.Quit}, wire.Wire.Ghosts as WireGhosts},
  Link.Link,
  World.{Message, IsMessage},
}
use Rattle.fetch_runs.specs.Sessions.{Served}
use Rattle.mail_store.specs.declared.{
  maildir.disk.MaildirDisk.Ghosts as DiskGhosts,
  file.flat_file.FlatFile.Ghosts as FileGhosts,
}
use Rattle.pop3_server.specs.{
  declared.{maildrop.Maildrop.Ghosts as DropGhosts, state.State.TheVariants.Authorization},
  Maildrop.{DropMail, there},
  ServerMachine.{Machine, greeting_line},
  LoopLink.Loop,
}
use Rattle.session_parts.specs.{Account.Holding, declared.report.Report.Report, Target.is_sound}
use Rattle.fetch_session.specs.Visits.{WasMade}

-- a link that wasn't used yet
abbrev pub unused : Link
unused = record { sent = []; got = []; ended = false; failures = 0 }

-- a link to a server, which wasn't used yet
abbrev pub loop_to : {D : Type 0} → Machine D → Loop D
loop_to machine = record {
  machine = machine;
  link = unused;
  answers = [];
  left =
      greeting_line;
  waiting = [];
  down = false;
}

-- the messages that were there before, in their order, without those whose ids vanished
abbrev pub AreWithout : List Message → List (List ℕ) → List Message → Type 0
AreWithout [] vanished after = (vanished ≡ []) × (after ≡ [])
AreWithout (m ∷ before) vanished after = ((rest : List Message) × (after ≡ m ∷ rest) × AreWithout before vanished rest)
    ⊎ ((more : List (List ℕ)) × (vanished ≡ m.uid ∷ more) × AreWithout before more after)

-- what the link got came from an honest server with the messages that the server had, and those of them that vanished
-- were marked, and vanished with a QUIT
pub record IsServedByHonest {M : Type 0} (mail : M → DropMail) (old new : Machine M) (link : Link) : Type 0 where
  pub vanished : List (List ℕ)
  pub served : Served (there (mail old.drop).slots) link.sent link.got vanished
  pub quits : (vanished ≡ []) ⊎ ((front behind : List Command) × (served.honest.commands ≡ front ++ Quit ∷ behind))
  pub left : AreWithout (there (mail old.drop).slots) vanished (there (mail new.drop).slots)

-- what the contract of `fetch_local` says of each call: it was a call of `session` over an unused link to a new server,
-- which did what its trait says; and if the devices and the maildrop did so too, an honest server answered
pub record WasFetchedLocally {M D F : Type 0} (link : WireGhosts (Loop M)) (disk : DiskGhosts D) (file : FileGhosts F)
    (drop : DropGhosts M) (now : ℕ) (old : Holding D F) (server : Machine M) (report : Report) (new : Holding D F)
    (wire : Loop M) : Type 0 where
  pub made : WasMade link disk file now old (loop_to server) report new wire
  pub fresh : server.state ≡ Authorization None
  pub link_sound : link.sound wire
  -- while it is up none of its calls was refused, and once it has ended nothing is left
  pub up : wire.down ≡ false → wire.link.failures ≡ 0
  pub over : wire.link.ended ≡ true → wire.left ≡ []
  pub served : is_sound disk file new.store → file.sound new.file → drop.sound wire.machine.drop
      → AllByRecursion IsMessage (there (drop.mail server.drop).slots)
      → IsServedByHonest drop.mail server wire.machine wire.link
