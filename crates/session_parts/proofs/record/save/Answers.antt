use Rattle.std.proofs.Common.{None}
use Rattle.session_parts.proofs.record.save.Goals as goal

pub returns-in_err-bytes-clause-stands : goal.returns-in_err-bytes-clause-stands
returns-in_err-bytes-clause-stands g c = c.bytes_stand.ensures _ None c.bytes.ensures.is_record tt

pub returns-in-Ok-clause-stands : goal.returns-in-Ok-clause-stands
returns-in-Ok-clause-stands g c = c.bytes_stand.ensures _ None c.bytes.ensures.is_record tt

pub returns-clause-stands : goal.returns-clause-stands
returns-clause-stands g c = c.bytes_stand.ensures _ None c.bytes.ensures.is_record tt
