-- The lines of commands (RFC 1939, sections 3 and 5 to 7).
use Rattle.std.specs.Prelude.{ℕ, Bool, true, List, ◌++◌, codes, decimal, flat_map}
use Rattle.mail_terms.specs.Credential.{is_credential}
use Rattle.pop3_wire.specs.{
  Line.ended,
  declared.command.Command.Command,
  declared.command.Command.TheVariants.{User, Pass, Stat, UidlAll, UidlOne, ListAll, ListOne, Retr, Dele, Rset, Noop},
  declared.command.Command.TheVariants.{Top, Quit},
}

-- the command can be sent
abbrev pub can_be_sent : Command → Bool
can_be_sent (User name) = is_credential name
can_be_sent (Pass password) = is_credential password
can_be_sent _ = true

-- the line that asks for a command, without its CR LF
unfoldable pub line_of : Command → List ℕ
line_of (User name) = codes "USER " ++ name
line_of (Pass password) = codes "PASS " ++ password
line_of Stat = codes "STAT"
line_of UidlAll = codes "UIDL"
line_of (UidlOne number) = codes "UIDL " ++ decimal number
line_of ListAll = codes "LIST"
line_of (ListOne number) = codes "LIST " ++ decimal number
line_of (Retr number) = codes "RETR " ++ decimal number
line_of (Dele number) = codes "DELE " ++ decimal number
line_of Rset = codes "RSET"
line_of Noop = codes "NOOP"
line_of (Top number lines) = codes "TOP " ++ decimal number ++ codes " " ++ decimal lines
line_of Quit = codes "QUIT"

-- the octets of these commands, each on one line
abbrev pub octets_of : List Command → List ℕ
octets_of commands = flat_map (λ command. ended (line_of command)) commands
