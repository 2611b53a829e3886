use Rattle.std.specs.Io.KnownBytes.{Keeps}
use Rattle.popd_program.proofs.waits.write_patiently.Given as goal

abbrev pub invariant-loop : goal.invariant-loop
invariant-loop g l = Keeps (g.W.Write.contents l.initial.stream) (g.W.Write.contents l.stream)
