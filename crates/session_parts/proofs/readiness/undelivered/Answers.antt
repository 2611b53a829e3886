use Rattle.std.proofs.Common.{ap, arith, not}
use Rattle.fetch_record.specs.Record.{is_delivered}
use Rattle.session_parts.proofs.ReadyLemmas.{flags_more}
use Rattle.session_parts.proofs.readiness.undelivered.Goals as goal

pub loop-i-preserved : goal.loop-i-preserved
loop-i-preserved g c =
    flags_more (λ uid. not (is_delivered c.args.seen.now.rows uid)) _ _ _ _ c.uid.result.now _ c.loop-i.invariant
    (omega (arith, c.loop-i-test.true, c.len-i-end.ensures.count))
    c.uid.ensures.value (ap not c.is_delivered.ensures) c.in_ok-push.ensures.items
