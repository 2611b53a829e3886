use Rattle.std.proofs.Common.{◌≡◌, take}
use Rattle.session_parts.specs.{Report.most_bytes, Telling.octets_ahead}
use Rattle.session_parts.proofs.telling.octets_in.Given as goal

abbrev pub invariant-loop-told : goal.invariant-loop-told
invariant-loop-told l = l.total ≡ most_bytes (octets_ahead (take l.told-index l.message_previews))
