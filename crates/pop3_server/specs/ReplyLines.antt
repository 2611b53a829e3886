-- Lines of the table's answers, as the code asks for them.
use Rattle.std.specs.Prelude.{ℕ, List, Option, None, Some, codes}
use Rattle.pop3_server.specs.{
  ServerMachine.{octets_line, scan_line, uid_line},
  declared.{reply.Column.{Column, TheVariants.{Size, Uid}}, rows.MessageRow.MessageRow},
}

-- the line of a message in LIST, or in UIDL
abbrev pub row_line : Column → ℕ → MessageRow → List ℕ
row_line Size = scan_line
row_line Uid = uid_line

-- the first line of a text, or of its top
abbrev pub text_line : Option ℕ → MessageRow → List ℕ
text_line None = octets_line
text_line (Some n) = λ row. codes "+OK"
