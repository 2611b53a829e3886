use Rattle.std.proofs.KnownBytes.{Keeps-trans}
use Rattle.popd_program.proofs.waits.write_patiently.Goals as goal

pub returns-in_default-clause-bytes : goal.returns-in_default-clause-bytes
returns-in_default-clause-bytes g c = Keeps-trans _ _ _ c.loop.invariant c.in-Err.ensures.bytes
