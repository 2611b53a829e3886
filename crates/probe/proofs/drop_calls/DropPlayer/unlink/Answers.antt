use Rattle.std.proofs.Common.{refl}
use Rattle.probe.proofs.drop_calls.DropPlayer.unlink.Goals as goal

-- a regular file was found
pub unlink-removed-requires : goal.unlink-removed-requires
unlink-removed-requires g c = (c.in-Ok.found.stamp.number, (c.in-Ok.found, c.in-Ok.ensures, c.if-found.true, refl))
