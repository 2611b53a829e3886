use Rattle.std.proofs.Common.{refl}
use Rattle.probe.proofs.drop_calls.DropPlayer.open.Goals as goal

-- a regular file was found
pub open-requires : goal.open-requires
open-requires g c = (c.in-Ok.found.stamp.number, (c.in-Ok.found, c.in-Ok.ensures, c.if-found.true, refl))
