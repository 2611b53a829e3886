-- The program's kinds of lines as values.
use Rattle.rc_file.specs.{
  LineRules.{RcLine, skipped, more, section, key, bad},
  declared.line.JudgedLine.{JudgedLine, TheVariants.{Skipped, More, Section, Key, Bad}},
}

abbrev pub judged_line : JudgedLine → RcLine
judged_line Skipped = skipped
judged_line (More text) = more text.now
judged_line (Section name) = section name.now
judged_line (Key name value) = key name.now value.now
judged_line Bad = bad
