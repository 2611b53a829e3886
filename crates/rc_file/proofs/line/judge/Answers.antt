use Rattle.std.proofs.{Common.rules, lemmas.Str.is_utf8-from_IsUtf8}
use Rattle.rc_file.specs.LineRules.{judge}
use Rattle.rc_file.proofs.line.judge.Goals as goal

pub returns-else-first_byte-eq91 : goal.returns-else-first_byte-eq91
unfolding judge
returns-else-first_byte-eq91 c = let valid = is_utf8-from_IsUtf8 _ c.in-Ok.ensures.cases.1 in search rules
