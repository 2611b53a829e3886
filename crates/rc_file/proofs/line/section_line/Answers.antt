use Rattle.std.proofs.{Common.arith, lemmas.Str.IsCharBoundary-after_ascii}
use Rattle.rc_file.proofs.line.section_line.Goals as goal

pub range-requires-clause-start_boundary : goal.range-requires-clause-start_boundary
range-requires-clause-start_boundary c = λ _. IsCharBoundary-after_ascii c.args.line.now 0 c.utf8.line (omega arith) (omega arith)
