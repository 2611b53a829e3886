use Rattle.std.proofs.Common.{refl}
use Rattle.mail_store.{specs.{Durable.MayLeave, Power.LeavesNoMore}, proofs.DiskLemmas.{all_seen, all_trust, durable_flush}}
use Rattle.session_parts.proofs.{SessionLemmas.{durable_safe, missing_safe}, readiness.secure.Goals.After-edges}
use Rattle.session_parts.proofs.readiness.secure.Goals as goal

pub returns-in-Ok-clause-same : goal.returns-in-Ok-clause-same
returns-in-Ok-clause-same g c = λ kept.
    let (sound, (_, flushes)) = c.in-Ok.ensures.measures kept in
    (sound, rw (all_seen (g.F.FlatFile.disk c.args.file.now) (g.F.FlatFile.disk c.edges.new.self) flushes, c.in-Ok.ensures.count) refl)

pub returns-in-Err-Missing-clause-same : goal.returns-in-Err-Missing-clause-same
returns-in-Err-Missing-clause-same g c = λ kept.
    let is = c.in-Err-Missing.field-0-is in
    let (sound, (_, same)) = rw is at (c.in-Err-Missing.ensures.measures kept) in
    (sound, rw (same, rw is at c.in-Err-Missing.ensures.count) refl)

flushed : (g : _) (c : After-edges g) → g.F.FlatFile.sound c.edges.new.self
    → LeavesNoMore (MayLeave (g.F.FlatFile.disk c.args.file.now)) (MayLeave (g.F.FlatFile.disk c.edges.new.self))
flushed g c kept = let (_, (_, flushes)) = c.edges.ensures.measures kept in
    (durable_flush (g.F.FlatFile.disk c.args.file.now) (g.F.FlatFile.disk c.edges.new.self) c.edges.result flushes).no_more

pub returns-in-Ok-clause-keeps : goal.returns-in-Ok-clause-keeps
returns-in-Ok-clause-keeps g c = flushed g (goal.at.returns-in-Ok-clause-keeps g c).After-edges

pub returns-in-Err-Missing-clause-keeps : goal.returns-in-Err-Missing-clause-keeps
returns-in-Err-Missing-clause-keeps g c = flushed g (goal.at.returns-in-Err-Missing-clause-keeps g c).After-edges

pub returns-in-Err-clause-keeps : goal.returns-in-Err-clause-keeps
returns-in-Err-clause-keeps g c = flushed g (goal.at.returns-in-Err-clause-keeps g c).After-edges

pub returns-in-Ok-clause-durable : goal.returns-in-Ok-clause-durable
returns-in-Ok-clause-durable g c = λ kept trust. let (_, (_, flushes)) = c.in-Ok.ensures.measures kept in
    durable_safe g.F.FlatFile c.edges.new.self refl
    (all_trust (g.F.FlatFile.disk c.args.file.now) (g.F.FlatFile.disk c.edges.new.self) flushes trust)

pub returns-in-Err-Missing-clause-durable : goal.returns-in-Err-Missing-clause-durable
returns-in-Err-Missing-clause-durable g c = λ kept trust.
    let (_, (missing, same)) = rw c.in-Err-Missing.field-0-is at (c.in-Err-Missing.ensures.measures kept) in
    missing_safe g.F.FlatFile c.args.file.now c.edges.new.self same missing trust
